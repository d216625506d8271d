use Rattle.std.proofs.Common.{◌≡◌, map}
use Rattle.std.specs.List.{range_with_len}
use Rattle.dv_defs.specs.Linked.{priors_at}
use Rattle.dv_hier.specs.Upwards.{bare}
use Rattle.dv_vtable.proofs.priors.priors_of_all.Given as goal

abbrev pub invariant-loop-class : goal.invariant-loop-class
invariant-loop-class l = l.lists.items ≡ map (priors_at (bare l.infos)) (range_with_len 0 l.class)
