use Rattle.std.proofs.Common.{◌≡◌, ◌++◌, drop, filter}
use Rattle.dv_defs.specs.Order.{numbers}
use Rattle.dv_hier.specs.Upwards.{is_marked}
use Rattle.dv_vtable.proofs.priors.add_declarers.Given as goal

abbrev pub invariant-loop-id : goal.invariant-loop-id
invariant-loop-id l =
    numbers l.priors.items ++ filter (is_marked l.declares) (numbers (drop l.id-index l.interfaces)) ≡ numbers l.fn.priors.items ++ filter (is_marked l.declares) (numbers l.interfaces)
