use Rattle.std.proofs.Common.{◌≡◌, replicate}
use Rattle.dv_effects.proofs.entry.repeated.Given as goal

abbrev pub invariant-loop : goal.invariant-loop
invariant-loop l = l.words.items ≡ replicate l.counter l.word
