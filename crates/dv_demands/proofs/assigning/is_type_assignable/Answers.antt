use Rattle.dv_demands.proofs.assigning.is_type_assignable.Goals as goal

pub returns-in-Throwable : goal.returns-in-Throwable
returns-in-Throwable c = rw c.in-Throwable.is c.is_assignable_to_named-in-Throwable.ensures
