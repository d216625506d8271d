use Rattle.std.specs.List.{slice_split}
use Rattle.dv_lex.specs.Lines.{is_line_feed}
use Rattle.dv_lex.proofs.Rows.{rows_are_lines}
use Rattle.dv_lex.proofs.laws.lines.rows_are_lines.Goals as goal

pub returns : goal.returns
returns c = λ n at text. rows_are_lines n at (slice_split is_line_feed text)
