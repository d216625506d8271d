-- The native methods of texts, and what their arguments are wherever the tagged machine isn't stuck.
use Rattle.std.specs.Prelude.{◌≡◌, ◌<◌, ℕ, Bool, true, false, List, Some}
use Rattle.dv_defs.specs.declared.names.Base.TheVariants as base
use Rattle.dv_defs.specs.declared.names.Ty.{Ty}
use Rattle.dv_defs.specs.declared.run.Native.{Native}
use Rattle.dv_defs.specs.declared.run.Native.TheVariants as native
use Rattle.dv_defs.specs.Types.{component, is_base}
use Rattle.dv_words.specs.declared.state.Kind.TheVariants as kind
use Rattle.dv_words.specs.Heaps.{kind_of}
use Rattle.dv_words.specs.State.{WordHeap}
use Rattle.dv_words.specs.Natives.{arg}

-- the methods of String, dvm.Text and dvm.Console
abbrev pub is_of_texts : Native → Bool
is_of_texts native.Length = true
is_of_texts native.CharAt = true
is_of_texts native.Equals = true
is_of_texts native.Concat = true
is_of_texts native.OfLong = true
is_of_texts native.OfChars = true
is_of_texts native.Print = true
is_of_texts native.Println = true
is_of_texts n = false

-- an array of chars
pub record IsChars (heap : WordHeap) (o : ℕ) : Type 0 where
  pub ty : Ty
  pub kind : kind_of heap o ≡ Some (kind.Array ty)
  pub chars : is_base base.C (component ty) ≡ true

-- the arguments of a native: ofChars takes null or an array of chars
abbrev pub TextsFit : WordHeap → Native → List ℕ → Type 0
TextsFit heap native.OfChars ws = 0 < arg ws 0 → IsChars heap (arg ws 0)
TextsFit heap n ws = Unit {0}
