-- Types and prototypes as they are printed, and the texts that are descriptors.
use Rattle.std.specs.Prelude.{◌≡◌, ℕ, ◌≤◌, Bool, ◌&&◌, ◌||◌, not, IsTrue, List, ◌∷◌, ◌++◌, [], length, replicate, Option, Some, None, IfSome, nat_lt, ◌==◌, bytes_eq, codes}
use Rattle.std.specs.List.{All, list_any, list_all, flat_map, join_with_byte}
use Rattle.dv_defs.specs.declared.names.Base.{Base}
use Rattle.dv_defs.specs.declared.names.Base.TheVariants as base
use Rattle.dv_defs.specs.declared.names.Ty.{Ty}
use Rattle.dv_defs.specs.declared.names.Proto.{Proto}
pub use Rattle.dv_defs.specs.Written.{base_text, descriptor, return_text, prototype}

-- ---- what is a descriptor

-- what separates names, or ends a word of the text
abbrev pub marks : List ℕ
marks = codes ".;[/()<>:\"'#{},="

-- a byte of a plain name: no mark, no blank and no control character
abbrev pub is_name_byte : ℕ → Bool
is_name_byte b = nat_lt 32 b && not (list_any (λ m. m == b) marks)

abbrev pub is_plain_name : List ℕ → Bool
is_plain_name w = nat_lt 0 (length w) && list_all is_name_byte w

-- the name of a constructor or of a class's initializer
abbrev pub is_special_name : List ℕ → Bool
is_special_name w = bytes_eq w (codes "<init>") || bytes_eq w (codes "<clinit>")

abbrev pub is_name : List ℕ → Bool
is_name w = is_plain_name w || is_special_name w

-- L, one or more names with slashes between, and a semicolon
pub record IsClassName (text : List ℕ) : Type 0 where
  pub first : List ℕ
  pub others : List (List ℕ)
  pub are_names : IsTrue (list_all is_name (first ∷ others))
  pub spelled : text ≡ 76 ∷ (join_with_byte 47 (first ∷ others) ++ 59 ∷ [])

abbrev pub IsBase : Base → Type 0
IsBase (base.Class name) = IsClassName name
IsBase b = Unit {0}

abbrev pub IsType : Ty → Type 0
IsType t = (t.dims ≤ 255) × IsBase t.base

abbrev pub IsProto : Proto → Type 0
IsProto p = All IsType p.params × IfSome p.ret IsType
