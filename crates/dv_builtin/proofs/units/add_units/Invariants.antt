use Rattle.std.proofs.Common.{◌≡◌, ◌++◌, take}
use Rattle.dv_words.specs.Natives.{units_in}
use Rattle.dv_builtin.proofs.units.add_units.Given as goal

abbrev pub invariant-loop-word : goal.invariant-loop-word
invariant-loop-word l = l.units.items ≡ l.fn.units.items ++ units_in (take l.word-index l.words)
