-- Subtypes (JLS 4.10.2, 4.10.3).
use Rattle.std.specs.Prelude.{ℕ, zero, suc, ◌-◌, Bool, true, false, ◌&&◌, List, [], ◌∷◌, length, Option, Some, None, slice_get, nat_eq, nat_le, bytes_eq}
use Rattle.dv_defs.specs.declared.names.Base.{Base}
use Rattle.dv_defs.specs.declared.names.Ty.{Ty}
use Rattle.dv_defs.specs.declared.names.ClassId.{ClassId}
use Rattle.dv_defs.specs.Images.{Image}
use Rattle.dv_defs.specs.declared.image.ClassInfo.{ClassInfo}
use Rattle.dv_defs.specs.Names.{object_name}
use Rattle.dv_defs.specs.Types.{class_in, ty_eq, is_reference, is_class_base}
use Rattle.dv_defs.specs.Pools.{class_named, supers, parent_at, is_interface}

abbrev pub has_number : ℕ → List ℕ → Bool
has_number d [] = false
has_number d (c ∷ cs) = elim (nat_eq c d) [ true ↦ true | false ↦ has_number d cs ]

-- a relation of two classes
abbrev pub ClassTest : Type 0
ClassTest = ℕ → ℕ → Bool

abbrev pub numbers : List ClassId → List ℕ
numbers [] = []
numbers (c ∷ cs) = c.0 ∷ numbers cs

abbrev pub interfaces_of : Option ClassInfo → List ℕ
interfaces_of None = []
interfaces_of (Some c) = numbers c.interfaces

abbrev pub with_parent : Option ℕ → List ℕ → List ℕ
with_parent None cs = cs
with_parent (Some c) cs = c ∷ cs

-- the superclass and the superinterfaces that a class names
abbrev pub above : Image → ℕ → List ℕ
above image c = with_parent (parent_at image c) (interfaces_of (slice_get image.classes c))

abbrev pub any_of : (ℕ → Bool) → List ℕ → Bool
any_of test [] = false
any_of test (c ∷ cs) = elim (test c) [ true ↦ true | false ↦ any_of test cs ]

-- the first class is the second or above it, in fewer than so many steps
abbrev pub reaches : Image → ℕ → ℕ → ℕ → Bool
reaches image zero d c = false
reaches image (suc n) d c = elim (nat_eq c d) [ true ↦ true | false ↦ any_of (reaches image n d) (above image c) ]

-- by superclasses
abbrev pub extends : Image → ClassTest
extends image c d = has_number d (supers image c)

-- by superclasses and superinterfaces
abbrev pub implements : Image → ClassTest
implements image c d = reaches image (suc (length image.classes)) d c

abbrev pub both_found : ClassTest → Option ℕ → Option ℕ → Bool
both_found test (Some c) (Some d) = test c d
both_found test c d = false

-- a class is under another
abbrev pub class_under : Image → ClassTest → Base → List ℕ → Bool
class_under image test a d = elim (class_in a) [ None ↦ false | Some c ↦ both_found test (class_named image c) (class_named image d) ]

-- a type of so many dimensions over the first is under a class: each reference is under Object, and no array under another class
abbrev pub under_class : Image → ClassTest → ℕ → Base → List ℕ → Bool
under_class image test (suc n) a d = bytes_eq d object_name
under_class image test zero a d = elim (is_class_base a && bytes_eq d object_name) [ true ↦ true | false ↦ class_under image test a d ]

abbrev pub under_base : Image → ClassTest → ℕ → Base → Base → Bool
under_base image test n a b = elim (class_in b) [ None ↦ false | Some d ↦ under_class image test n a d ]

-- equal, or, the second's dimensions taken off both, under a class
abbrev pub under_type : Image → ClassTest → Ty → Ty → Bool
under_type image test a b =
    elim (ty_eq a b) [
      | true ↦ true
      | false ↦ elim (nat_le b.dims a.dims) [
        | true ↦ under_base image test (a.dims - b.dims) a.base b.base
        | false ↦ false
      ]
    ]

-- subtype by superclasses alone, through array components
unfoldable pub sub : Image → Ty → Ty → Bool
sub image a b = under_type image (extends image) a b

-- the subtype relation whole, with interfaces, through array components
unfoldable pub instance : Image → Ty → Ty → Bool
instance image a b = under_type image (implements image) a b

abbrev pub names_interface : Image → Option (List ℕ) → Bool
names_interface image None = false
names_interface image (Some name) = elim (class_named image name) [ None ↦ false | Some c ↦ is_interface image c ]

abbrev pub is_interface_type : Image → Ty → Bool
is_interface_type image t = nat_eq t.dims 0 && names_interface image (class_in t.base)

-- what the verifier asks: an interface takes each reference (own)
unfoldable pub assignable : Image → Ty → Ty → Bool
assignable image a b = elim (is_interface_type image b) [ true ↦ is_reference a | false ↦ sub image a b ]

-- what a register of a verified type may hold: where the type is no interface, an instance of it
unfoldable pub fits : Image → Ty → Ty → Bool
fits image a b = elim (is_interface_type image b) [ true ↦ is_reference a | false ↦ instance image a b ]
