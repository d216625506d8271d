use Rattle.dv_vtable.proofs.PriorLaws.{parent_last}
use Rattle.dv_vtable.proofs.priors.add_parent.Goals as goal

pub returns-in_ok-push : goal.returns-in_ok-push
returns-in_ok-push c = parent_last c.args.priors.now.items c.push.new.self.items c.args.parent c.in-Some.id c.in-Some.is c.in_ok-push.ensures.items
