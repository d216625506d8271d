use Rattle.std.proofs.Common.{length, ◌-◌, ◌≡◌, ◌≤◌, ◌+◌, drop, map}
use Rattle.std.specs.List.{All}
use Rattle.dv_lex.specs.Lines.{read_rows, rows_from, reading_of, read_in, HasTokens, IsLineInside}
use Rattle.dv_lex.proofs.Fronts.{with_lines}
use Rattle.dv_lex.proofs.line.good_lines.Given as goal

abbrev pub invariant-loop-start : goal.invariant-loop-start
invariant-loop-start l = record {
  inside : l.start ≤ length l.text;
  count : l.number ≤ l.start + 1;
  within : All (IsLineInside l.text) l.lines.items;
  tokens : All (HasTokens l.text) l.lines.items;
  so_far : with_lines (map (read_in l.text) l.lines.items) (read_rows (rows_from l.number l.start (drop l.start l.text))) ≡ reading_of l.text;
}

abbrev pub decreases-loop-start : goal.decreases-loop-start
decreases-loop-start l = length l.text - l.start
