use Rattle.std.proofs.Common.{◌≡◌}
use Rattle.dv_hier.specs.Slots.{slots_below, infos_below}
use Rattle.dv_hier.proofs.slots.lay_out.Given as goal

abbrev pub invariant-loop-class : goal.invariant-loop-class
invariant-loop-class l = (l.layout.slots.items ≡ slots_below l.infos l.class) × (l.layout.fields.items ≡ infos_below l.infos l.class)
