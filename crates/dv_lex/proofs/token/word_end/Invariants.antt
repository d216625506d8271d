use Rattle.std.proofs.Common.{length, ◌-◌, ◌≡◌, ◌<◌, ◌≤◌, drop}
use Rattle.dv_lex.specs.Lexemes.{lexemes, word, Outside}
use Rattle.dv_lex.proofs.Steps.{between}
use Rattle.dv_lex.proofs.token.word_end.Given as goal

abbrev pub invariant-loop-at : goal.invariant-loop-at
invariant-loop-at l = record {
  past : l.start < l.at;
  inside : l.at ≤ length l.line;
  so_far : lexemes l.start Outside (drop l.start l.line) ≡ word l.start (between l.start l.at l.line) (drop l.at l.line) (lexemes l.at Outside (drop l.at l.line));
}

abbrev pub decreases-loop-at : goal.decreases-loop-at
decreases-loop-at l = length l.line - l.at
