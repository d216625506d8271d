-- The bases of register types by number, and what words say by them.
use Rattle.std.specs.Prelude.{◌≡◌, ◌+◌, ◌-◌, ◌<◌, ◌^◌, ◌++◌, ℕ, true, false, List, [], ◌∷◌, length, None, All, nat_lt, slice_index_or}
use Rattle.dv_defs.specs.declared.names.Base.{Base}
use Rattle.dv_defs.specs.declared.names.Base.TheVariants as base
use Rattle.dv_defs.specs.declared.names.Ty.{Ty}
use Rattle.dv_defs.specs.Images.{Image}
use Rattle.dv_defs.specs.Pools.{name_at, class_named}
use Rattle.dv_typing.specs.declared.typing.RegType.{RegType}
use Rattle.dv_typing.specs.declared.typing.RegType.TheVariants as ty
use Rattle.dv_bases.specs.declared.words.Reference.{Reference}
use Rattle.dv_bases.specs.declared.words.Part.{Part}
use Rattle.dv_bases.specs.declared.words.Part.TheVariants as part
use Rattle.dv_bases.specs.Words.{part_in}

-- the classes of an image, and names that it lacks
pub record Names : Type 0 where
  pub image : Image
  pub more : List (List ℕ)

abbrev pub primitives : List Base
primitives = base.Z ∷ base.B ∷ base.C ∷ base.S ∷ base.I ∷ base.J ∷ []

abbrev pub class_count : Names → ℕ
class_count names = length names.image.classes

-- how many bases there are
abbrev pub base_count : Names → ℕ
base_count names = 6 + class_count names + length names.more

-- the classes come first
abbrev pub name_of : Names → ℕ → List ℕ
name_of names c =
    elim (nat_lt c (class_count names)) [ true ↦ name_at names.image c | false ↦ slice_index_or names.more (c - class_count names) [] ]

-- the primitive types, the classes, and the names that the image lacks
abbrev pub base_of : Names → ℕ → Base
base_of names k = elim (nat_lt k 6) [ true ↦ slice_index_or primitives k base.Z | false ↦ base.Class (name_of names (k - 6)) ]

abbrev pub type_of : Names → Reference → Ty
type_of names r = record { dims = r.dims; base = base_of names r.base }

abbrev pub type_in : Names → Part → RegType
type_in names part.Conflict = ty.Conflict
type_in names part.Zero = ty.Zero
type_in names part.Int = ty.Int
type_in names part.LongLo = ty.LongLo
type_in names part.LongHi = ty.LongHi
type_in names part.UninitThis = ty.UninitThis
type_in names (part.Uninit at) = ty.Uninit at
type_in names (part.Class r) = ty.Class (type_of names r)

-- the type that a word says
abbrev pub word_type : Names → ℕ → RegType
word_type names word = type_in names (part_in word)

-- its base has a number
abbrev pub IsNumbered : Names → Reference → Type 0
IsNumbered names r = r.base < base_count names

abbrev pub IsPart : Names → Part → Type 0
IsPart names (part.Class r) = IsNumbered names r
IsPart names (part.Uninit at) = at < 2 ^ 29
IsPart names p = Unit {0}

abbrev pub IsWord : Names → ℕ → Type 0
IsWord names word = IsPart names (part_in word)

-- the image lacks the other names, and a word has room for each number
pub record AreNames (names : Names) : Type 0 where
  pub lacking : All (λ name. class_named names.image name ≡ None) names.more
  pub room : base_count names < 2 ^ 21

-- the same names, with more behind them
pub record IsWider (old new : Names) : Type 0 where
  pub image : new.image ≡ old.image
  pub behind : List (List ℕ)
  pub more : new.more ≡ old.more ++ behind
