use Rattle.std.proofs.Common.{◌≡◌, map, take}
use Rattle.dv_rules.specs.Changes.{renewed as renewed_by}
use Rattle.dv_rules.proofs.changes.renew.Given as goal

abbrev pub invariant-loop-ty : goal.invariant-loop-ty
invariant-loop-ty l = l.after.items ≡ map (renewed_by l.image l.change) (take l.ty-index l.regs)
