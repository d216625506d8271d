use Rattle.std.proofs.Common.{length, ◌-◌, ◌≡◌, ◌≤◌, drop}
use Rattle.std.specs.List.{All}
use Rattle.dv_lex.specs.Lexemes.{lexemes, Outside}
use Rattle.dv_lex.specs.Lines.{lexemes_in, IsInside}
use Rattle.dv_lex.proofs.Fronts.{with_front}
use Rattle.dv_lex.proofs.token.tokens_from.Given as goal

abbrev pub invariant-loop-at : goal.invariant-loop-at
invariant-loop-at l = record {
  inside : l.at ≤ length l.line;
  within : All (IsInside l.line) l.tokens.items;
  so_far : with_front (lexemes_in l.line l.tokens.items) (lexemes l.at Outside (drop l.at l.line)) ≡ lexemes l.start Outside (drop l.start l.line);
}

abbrev pub decreases-loop-at : goal.decreases-loop-at
decreases-loop-at l = length l.line - l.at
