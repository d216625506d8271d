use Rattle.std.proofs.Common.{◌<◌, ℕ, All, List, get_or}
use Rattle.law_words.specs.Laws.{IsUnit}
use Rattle.dv_sound.proofs.premises.have_units.Given as goal

abbrev pub invariant-loop-text : goal.invariant-loop-text
invariant-loop-text l = (k : ℕ) (d : List ℕ) → k < l.text-index → All IsUnit (get_or l.strings k d)
