use Rattle.std.proofs.Common.{◌≡◌, ◌<◌, ◌^◌, ℕ, All, List, Some, length}
use Rattle.dv_defs.specs.Pools.{Field, field_at}
use Rattle.dv_machine.specs.Opening.{string_of}
use Rattle.law_words.specs.Laws.{IsUnit}
use Rattle.dv_sound.proofs.premises.inits_fit.Given as goal

abbrev pub invariant-loop-place : goal.invariant-loop-place
invariant-loop-place l = (n : ℕ) → n < l.place → (x : Field) (s : List ℕ) → field_at l.image n ≡ Some x → string_of x.def.init ≡ Some s → (length s < 2 ^ 31) × All IsUnit s
