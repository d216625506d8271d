use Rattle.std.proofs.Common.{sym}
use Rattle.dv_coderead.proofs.Numbering.{behind_last, behind_none}
use Rattle.dv_coderead.proofs.body.number_behind.Goals as goal

pub returns-in-Some : goal.returns-in-Some
returns-in-Some c = λ text. behind_last text c.args.lines.now c.in-Some.line.now (sym c.in-Some.ensures.value)

pub returns-in-None : goal.returns-in-None
returns-in-None c = λ text. behind_none text c.args.lines.now (sym c.in-None.ensures.value)
