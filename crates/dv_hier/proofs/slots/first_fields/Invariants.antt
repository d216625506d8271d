use Rattle.std.proofs.Common.{◌≡◌, map}
use Rattle.std.specs.List.{range_with_len}
use Rattle.dv_hier.specs.Slots.{first_field}
use Rattle.dv_hier.proofs.slots.first_fields.Given as goal

abbrev pub invariant-loop-info : goal.invariant-loop-info
invariant-loop-info l = (l.firsts.items ≡ map (first_field l.infos) (range_with_len 0 l.info-index)) × (l.first ≡ first_field l.infos l.info-index)
