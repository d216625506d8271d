use Rattle.std.proofs.Common.{sym}
use Rattle.dv_final.proofs.Endings.{last_tells}
use Rattle.dv_final.proofs.lines.ends_well.Goals as goal

pub returns-in-Some : goal.returns-in-Some
returns-in-Some c = last_tells c.args.output.now c.in-Some.last.now (sym c.in-Some.ensures.value)
