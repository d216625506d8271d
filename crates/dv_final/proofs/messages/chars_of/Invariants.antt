use Rattle.std.proofs.Common.{◌≡◌, take}
use Rattle.dv_final.proofs.messages.chars_of.Given as goal

abbrev pub invariant-loop-word : goal.invariant-loop-word
invariant-loop-word l = l.units.items ≡ take l.word-index l.words
