use Rattle.std.proofs.Common.{◌≡◌, map}
use Rattle.std.specs.List.{range_with_len}
use Rattle.dv_vtable.specs.Chains.{first_method}
use Rattle.dv_vtable.proofs.numbering.first_methods.Given as goal

abbrev pub invariant-loop-info : goal.invariant-loop-info
invariant-loop-info l = (l.firsts.items ≡ map (first_method l.infos) (range_with_len 0 l.info-index)) × (l.first ≡ first_method l.infos l.info-index)
