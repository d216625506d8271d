use Rattle.dv_lex.proofs.Rows.{printed_line}
use Rattle.dv_lex.proofs.laws.lines.printed_lines_are_lines.Goals as goal

pub returns : goal.returns
returns c = printed_line
