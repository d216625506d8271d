-- What stores keep of words of 32 bits.
use Rattle.std.proofs.Common.{◌≡◌, ℕ, ◌<◌, ◌^◌, ◌%◌, Bool, true, false, ap}
use Rattle.std.specs.Int.{w32}
use Rattle.std.proofs.lemmas.Int.{of_z-to_z}
use Rattle.dv_defs.specs.declared.names.Base.{Base}
use Rattle.dv_defs.specs.declared.names.Base.TheVariants as base
use Rattle.dv_words.specs.Words.{int_of, word_of}
use Rattle.dv_mem.specs.Values.{cut_to}

-- a word of 32 bits is the word of its number
pub again : (w : ℕ) → w < 2 ^ 32 → word_of (int_of w) ≡ w
again w l = of_z-to_z w32 w l

pub cut_boolean : (w : ℕ) → w < 2 ^ 32 → cut_to base.Z w ≡ w % 2
cut_boolean w l = ap (λ (n : ℕ). n % 2) (again w l)

abbrev IsNarrow : Base → Bool
IsNarrow base.Z = true
IsNarrow base.B = true
IsNarrow base.C = true
IsNarrow base.S = true
IsNarrow b = false

-- ints, longs and references are kept whole
pub cut_whole : (b : Base) (w : ℕ) → w < 2 ^ 32 → IsNarrow b ≡ false → cut_to b w ≡ w
cut_whole base.I w l n = again w l
cut_whole base.J w l n = again w l
cut_whole (base.Class name) w l n = again w l
cut_whole base.Z w l n = absurd (cc n)
cut_whole base.B w l n = absurd (cc n)
cut_whole base.C w l n = absurd (cc n)
cut_whole base.S w l n = absurd (cc n)
