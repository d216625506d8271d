-- Where a text of a language stops being one.
use Rattle.std.specs.Prelude.{◌≡◌, ℕ, ◌<◌, ◌≤◌, IsTrue, List, ◌++◌, length, take, slice_index, codes}
use Rattle.dv_defs.specs.declared.names.Ty.{Ty}
use Rattle.dv_defs.specs.declared.names.Proto.{Proto}
use Rattle.dv_names.specs.declared.error.NameError.{NameError}
use Rattle.dv_names.specs.declared.error.NameError.TheVariants as error
use Rattle.dv_names.specs.Descriptors.{descriptor, prototype, IsType, IsProto}
use Rattle.dv_names.specs.Grammar.{is_float_letter}

abbrev pub IsTypeText : List ℕ → Type 0
IsTypeText text = (t : Ty) × IsType t × (descriptor t ≡ text)

abbrev pub IsProtoText : List ℕ → Type 0
IsProtoText text = (p : Proto) × IsProto p × (prototype p ≡ text)

-- some text of the language begins so
abbrev pub Begins : (List ℕ → Type 0) → List ℕ → Type 0
Begins Is front = (more : List ℕ) × Is (front ++ more)

-- the length of the longest front with which some text of the language begins
pub record IsLongest (Is : List ℕ → Type 0) (text : List ℕ) (place : ℕ) : Type 0 where
  pub within : place ≤ length text
  pub begins : Begins Is (take place text)
  pub longest : (n : ℕ) → n ≤ length text → Begins Is (take n text) → n ≤ place

-- F or D stands at the place, where I could
abbrev pub IsFloatAt : (List ℕ → Type 0) → List ℕ → ℕ → Type 0
IsFloatAt Is text place = (place < length text) × IsTrue (is_float_letter (slice_index text place))
    × Begins Is (take place text ++ codes "I")

abbrev pub FailsAt : (List ℕ → Type 0) → List ℕ → NameError → Type 0
FailsAt Is text (error.BadDescriptor place) = IsLongest Is text place × ¬ (IsFloatAt Is text place)
FailsAt Is text (error.FloatType place) = IsLongest Is text place × IsFloatAt Is text place
FailsAt Is text error.Memory = Unit {0}
