use Rattle.std.proofs.Common.{length, ◌-◌, ◌≡◌, ◌<◌, ◌≤◌, ◌*◌, drop}
use Rattle.dv_lex.specs.Lexemes.{lexemes, Outside}
use Rattle.dv_lex.proofs.Steps.{literal_from}
use Rattle.dv_lex.proofs.token.literal_end.Given as goal

abbrev pub invariant-loop-at : goal.invariant-loop-at
invariant-loop-at l = record {
  past : l.start < l.at;
  inside : l.at ≤ length l.line;
  few : l.units ≤ 2 * l.at;
  so_far : lexemes l.start Outside (drop l.start l.line) ≡ literal_from l.line l.start l.at l.quote 0 l.units;
}

abbrev pub decreases-loop-at : goal.decreases-loop-at
decreases-loop-at l = length l.line - l.at
