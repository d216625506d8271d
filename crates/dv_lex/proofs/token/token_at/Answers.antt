use Rattle.std.proofs.Common.{arith, ◌∙◌, sym}
use Rattle.dv_lex.proofs.Steps.{mark_at, control_at}
use Rattle.dv_lex.proofs.token.token_at.Goals as goal

pub returns-in-Control : goal.returns-in-Control
returns-in-Control c = control_at c.args.line.now c.args.start c.requires.inside (sym c.byte_class.ensures ∙ c.in-Control.is)

pub returns-in-Mark : goal.returns-in-Mark
returns-in-Mark c = ((omega arith, omega arith), omega arith, mark_at c.args.line.now c.args.start c.requires.inside (sym c.byte_class.ensures ∙ c.in-Mark.is))
