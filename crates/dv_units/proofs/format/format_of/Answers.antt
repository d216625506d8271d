use Rattle.std.proofs.Common.{sym}
use Rattle.dv_units.proofs.Opcodes.{no_float}
use Rattle.dv_units.proofs.format.format_of.Goals as goal

pub returns-in-Some-clause-float : goal.returns-in-Some-clause-float
returns-in-Some-clause-float c = (λ h. absurd (cc), λ h. absurd (no_float c.args.op _ c.ranges.op.fits (sym c.in-Some.ensures) h))
