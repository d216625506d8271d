use Rattle.std.proofs.Common.{◌≡◌, take, true}
use Rattle.std.specs.List.{list_all}
use Rattle.dv_hier.specs.Upwards.{is_marked}
use Rattle.dv_hier.proofs.cycles.is_ready.Given as goal

abbrev pub invariant-loop-id : goal.invariant-loop-id
invariant-loop-id l = list_all (λ c. is_marked l.done c.0) (take l.id-index l.info.interfaces) ≡ true
