use Rattle.std.proofs.Common.{◌≡◌, ◌<◌, ℕ, All, List, Some}
use Rattle.std.specs.Prelude.{slice_get}
use Rattle.dv_defs.specs.Op.{Code, code_at}
use Rattle.law_words.specs.Laws.{IsUnit}
use Rattle.dv_sound.proofs.premises.strings_fit.Given as goal

abbrev pub invariant-loop-place : goal.invariant-loop-place
invariant-loop-place l = (n : ℕ) → n < l.place → (code : Code) (k : ℕ) (s : List ℕ) → code_at l.image n ≡ Some code → slice_get code.body.strings k ≡ Some s → All IsUnit s
