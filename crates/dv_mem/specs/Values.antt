-- The words of one value of a field or an element.
use Rattle.std.specs.Prelude.{ℕ, suc, Bool, List, [], ◌∷◌, if◌then◌else◌}
use Rattle.dv_defs.specs.declared.names.Base.{Base}
use Rattle.dv_defs.specs.declared.names.Base.TheVariants as base
use Rattle.dv_defs.specs.Parts.{Suffix}
use Rattle.dv_machine.specs.Mem.{narrowed_number}
use Rattle.dv_words.specs.Heaps.{static_in, word_in}
use Rattle.dv_words.specs.State.{WordHeap}
use Rattle.dv_words.specs.Words.{int_of, word_of}
use Rattle.dv_mem.specs.declared.words.Words.{Words}
use Rattle.dv_mem.specs.declared.words.Words.TheVariants as words

abbrev pub listed : Words → List ℕ
listed (words.One w) = w ∷ []
listed (words.Two low high) = low ∷ high ∷ []

-- the words of an object, or of a static field, from a place on: two of a long
abbrev pub words_from : WordHeap → ℕ → ℕ → Bool → List ℕ
words_from heap o k wide = if wide then word_in heap o k ∷ word_in heap o (suc k) ∷ [] else word_in heap o k ∷ []

abbrev pub static_from : WordHeap → ℕ → Bool → List ℕ
static_from heap f wide = if wide then static_in heap f 0 ∷ static_in heap f 1 ∷ [] else static_in heap f 0 ∷ []

-- the low bits that a field or an element of a primitive type keeps
abbrev pub cut_to : Base → ℕ → ℕ
cut_to b w = word_of (narrowed_number b (int_of w))

-- the same by the suffix of an operation
abbrev pub cut_by : Suffix → ℕ → ℕ
cut_by Suffix.Boolean w = cut_to base.Z w
cut_by Suffix.Byte w = cut_to base.B w
cut_by Suffix.Char w = cut_to base.C w
cut_by Suffix.Short w = cut_to base.S w
cut_by s w = w
