-- What a token means where a type or a reference to a member is due.
use Rattle.std.specs.Prelude.{ℕ, suc, Bool, true, false, ◌&&◌, List, [], ◌∷◌, ◌++◌, drop, Option, Some, None, unwrap_or, Result, Ok, Err, ◌==◌, if◌then◌else◌}
use Rattle.dv_defs.specs.declared.faults.LineKind.{LineKind}
use Rattle.dv_defs.specs.declared.faults.LineKind.TheVariants as kind
use Rattle.dv_defs.specs.declared.names.Base.{Base}
use Rattle.dv_defs.specs.declared.names.Base.TheVariants as base
use Rattle.dv_defs.specs.declared.names.Ty.{Ty}
use Rattle.dv_defs.specs.declared.names.Proto.{Proto}
use Rattle.dv_defs.specs.declared.names.FieldRef.{FieldRef}
use Rattle.dv_defs.specs.declared.names.MethodRef.{MethodRef}
use Rattle.dv_defs.specs.Types.{is_reference}
use Rattle.dv_names.specs.declared.error.NameError.{NameError}
use Rattle.dv_names.specs.declared.error.NameError.TheVariants as error
use Rattle.dv_names.specs.Descriptors.{is_name}
use Rattle.dv_names.specs.Grammar.{primitive_of, type_refusal, proto_refusal}
use Rattle.dv_coderead.specs.declared.refusal.Refusal.{Refusal}
use Rattle.dv_coderead.specs.declared.refusal.Refusal.TheVariants as refusal
use Rattle.dv_coderead.specs.Giving.{◌>>=◌}
use Rattle.dv_coderead.specs.Words.{begins_with}

abbrev pub kind_of : NameError → LineKind
kind_of (error.BadDescriptor at) = kind.BadDescriptor
kind_of (error.FloatType at) = kind.FloatType
kind_of error.Memory = kind.BadDescriptor

-- why a word isn't read, by why its descriptor isn't
abbrev pub refusal_of : NameError → Refusal
refusal_of (error.BadDescriptor at) = refusal.Fault kind.BadDescriptor
refusal_of (error.FloatType at) = refusal.Fault kind.FloatType
refusal_of error.Memory = refusal.Memory

-- what was read, unless it is refused
abbrev pub unless_refused : {X : Type 0} → Option NameError → X → Result X LineKind
unless_refused None x = Ok x
unless_refused (Some e) x = Err (kind_of e)

-- ---- types

-- how many brackets a text begins with
abbrev pub brackets : List ℕ → ℕ
brackets [] = 0
brackets (b ∷ bs) = if b == 91 then suc (brackets bs) else 0

-- a primitive type by its letter, else the class of this descriptor
abbrev pub base_of : List ℕ → Base
base_of [] = base.Class []
base_of (b ∷ []) = unwrap_or (primitive_of b) (base.Class (b ∷ []))
base_of (b ∷ c ∷ cs) = base.Class (b ∷ c ∷ cs)

-- the type of a descriptor
abbrev pub type_of : List ℕ → Ty
type_of w = record { dims = brackets w; base = base_of (drop (brackets w) w) }

unfoldable pub type_in : List ℕ → Result Ty LineKind
type_in w = unless_refused (type_refusal w) (type_of w)

-- a class or an array
abbrev pub only_reference : Ty → Result Ty LineKind
only_reference t = if is_reference t then Ok t else Err kind.BadDescriptor

abbrev pub reference_type_in : List ℕ → Result Ty LineKind
reference_type_in w = type_in w >>= only_reference

-- a class, and no array
abbrev pub is_class_type : Base → Bool
is_class_type (base.Class name) = true
is_class_type b = false

abbrev pub only_class : Ty → Result Ty LineKind
only_class t = if (t.dims == 0) && is_class_type t.base then Ok t else Err kind.BadDescriptor

unfoldable pub class_in : List ℕ → Result Ty LineKind
class_in w = type_in w >>= only_class

-- ---- prototypes

-- where the types of descriptors are read: between them, behind so many brackets; or in a class's, of which this much was read
pub data Place : Type 0 where
  Between : ℕ → Place
  InClass : ℕ → List ℕ → Place

abbrev pub and_type : ℕ → Base → List Ty → List Ty
and_type dims b ts = record { dims = dims; base = b } ∷ ts

-- the types of descriptors one after another
abbrev pub types_of : Place → List ℕ → List Ty
types_of p [] = []
types_of (Between dims) (b ∷ bs) =
    if b == 91 then types_of (Between (suc dims)) bs
    else if b == 76 then types_of (InClass dims (b ∷ [])) bs
    else and_type dims (base_of (b ∷ [])) (types_of (Between 0) bs)
types_of (InClass dims w) (b ∷ bs) =
    if b == 59 then and_type dims (base.Class (w ++ b ∷ [])) (types_of (Between 0) bs)
    else types_of (InClass dims (w ++ b ∷ [])) bs

-- what stands before the first of these bytes, and behind it; none where there is none
abbrev pub with_byte : ℕ → Option (List ℕ × List ℕ) → Option (List ℕ × List ℕ)
with_byte b None = None
with_byte b (Some p) = Some (b ∷ p.0, p.1)

unfoldable pub cut_at : ℕ → List ℕ → Option (List ℕ × List ℕ)
cut_at c [] = None
cut_at c (b ∷ bs) = if b == c then Some ([], bs) else with_byte b (cut_at c bs)

-- the result of a method; none for V
abbrev pub result_of : List ℕ → Option Ty
result_of w = if begins_with 86 w then None else Some (type_of w)

abbrev pub proto_parts : Option (List ℕ × List ℕ) → Proto
proto_parts None = record { params = []; ret = None }
proto_parts (Some p) = record { params = types_of (Between 0) p.0; ret = result_of p.1 }

-- the prototype of a method's descriptor
abbrev pub proto_of : List ℕ → Proto
proto_of w = proto_parts (cut_at 41 (drop 1 w))

unfoldable pub proto_in : List ℕ → Result Proto LineKind
proto_in w = unless_refused (proto_refusal w) (proto_of w)

-- ---- references

-- what stands before the first `->`, and behind it
unfoldable pub cut_at_arrow : List ℕ → Option (List ℕ × List ℕ)
cut_at_arrow [] = None
cut_at_arrow (b ∷ bs) = if (b == 45) && begins_with 62 bs then Some ([], drop 1 bs) else with_byte b (cut_at_arrow bs)

abbrev pub found_parts : Option (List ℕ × List ℕ) → Result (List ℕ × List ℕ) LineKind
found_parts None = Err kind.Operands
found_parts (Some p) = Ok p

abbrev pub member_name : List ℕ → Result (List ℕ) LineKind
member_name w = if is_name w then Ok w else Err kind.Operands

abbrev pub arrow_parts : List ℕ → Result (List ℕ × List ℕ) LineKind
arrow_parts w = found_parts (cut_at_arrow w)

-- a class or array, `->`, a name, `:` and a type
unfoldable pub field_in : List ℕ → Result FieldRef LineKind
field_in w = do
  parts ← arrow_parts w
  class ← reference_type_in parts.0
  member ← found_parts (cut_at 58 parts.1)
  name ← member_name member.0
  ty ← type_in member.1
  Ok (record { class = class; name = name; ty = ty })

-- a class or array, `->`, a name and a prototype
unfoldable pub method_in : List ℕ → Result MethodRef LineKind
method_in w = do
  parts ← arrow_parts w
  class ← reference_type_in parts.0
  member ← found_parts (cut_at 40 parts.1)
  name ← member_name member.0
  proto ← proto_in (40 ∷ member.1)
  Ok (record { class = class; name = name; proto = proto })
