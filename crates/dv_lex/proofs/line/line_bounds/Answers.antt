use Rattle.std.proofs.Common.{arith, ◌∙◌, ◌≡◌, ◌<◌, ◌≤◌, ◌+◌, ◌∷◌, [], sym, ap, length, length-drop, drop}
use Rattle.std.specs.Prelude.{slice_range}
use Rattle.dv_lex.specs.Lines.{rows_from}
use Rattle.dv_lex.proofs.Rows.{first_last, some_line, no_rows, row}
use Rattle.dv_lex.proofs.Steps.{tail_is}
use Rattle.dv_lex.proofs.line.line_bounds.Goals as goal

pub returns-in-None-clause-line : goal.returns-in-None-clause-line
returns-in-None-clause-line c =
    let text = c.args.text.now in
    let n = c.args.number in
    let rest : slice_range text c.args.start (length text) ≡ drop c.args.start text = tail_is text c.args.start in
    let lt : 0 < length (slice_range text c.args.start (length text)) = rw rest (omega (arith, length-drop c.args.start text, c.requires)) in
    let last : rows_from n c.args.start (slice_range text c.args.start (length text)) ≡ row n c.args.start (slice_range text c.args.start (length text)) ∷ [] = first_last n c.args.start _ lt (sym c.in-None.is ∙ c.line_feed.ensures) in
    let all : length text ≤ length text = omega arith in
    rw (no_rows (n + 1) (length text) (length text) text all) (ap (rows_from n c.args.start) (sym rest) ∙ last)

pub returns-in-Some-clause-line : goal.returns-in-Some-clause-line
returns-in-Some-clause-line c =
    some_line c.args.number c.args.text.now c.args.start c.in-Some.len c.trimmed_len.result (sym c.in-Some.is ∙ c.line_feed.ensures) c.trimmed_len.ensures.0 c.trimmed_len.ensures.1
