-- Types of fields, elements, parameters and results.
use Rattle.std.specs.Prelude.{ℕ, ◌+◌, ◌-◌, Bool, true, false, ◌&&◌, ◌||◌, List, [], ◌∷◌, Option, Some, None, nat_eq, nat_lt, bytes_eq}
use Rattle.dv_defs.specs.declared.names.Base.{Base}
use Rattle.dv_defs.specs.declared.names.Base.TheVariants as base
use Rattle.dv_defs.specs.declared.names.Ty.{Ty}
use Rattle.dv_defs.specs.declared.names.Proto.{Proto}
use Rattle.dv_defs.specs.declared.names.FieldRef.{FieldRef}
use Rattle.dv_defs.specs.declared.names.MethodRef.{MethodRef}

abbrev pub of_class : List ℕ → Ty
of_class name = record { dims = 0; base = base.Class name }

abbrev pub of_base : Base → Ty
of_base b = record { dims = 0; base = b }

abbrev pub is_array : Ty → Bool
is_array t = nat_lt 0 t.dims

abbrev pub is_class_base : Base → Bool
is_class_base (base.Class name) = true
is_class_base b = false

-- a class or an array
abbrev pub is_reference : Ty → Bool
is_reference t = is_array t || is_class_base t.base

abbrev pub base_is_named : List ℕ → Base → Bool
base_is_named name (base.Class own) = bytes_eq own name
base_is_named name b = false

-- the class of that name, and no array of it
abbrev pub is_class : List ℕ → Ty → Bool
is_class name t = nat_eq t.dims 0 && base_is_named name t.base

-- the class that a type without dimensions is, where it is one
abbrev pub class_in : Base → Option (List ℕ)
class_in (base.Class name) = Some name
class_in b = None

abbrev pub base_eq : Base → Base → Bool
base_eq base.Z base.Z = true
base_eq base.B base.B = true
base_eq base.C base.C = true
base_eq base.S base.S = true
base_eq base.I base.I = true
base_eq base.J base.J = true
base_eq (base.Class a) (base.Class b) = bytes_eq a b
base_eq a b = false

abbrev pub ty_eq : Ty → Ty → Bool
ty_eq a b = nat_eq a.dims b.dims && base_eq a.base b.base

-- the type of an array's elements
abbrev pub component : Ty → Ty
component t = record { dims = t.dims - 1; base = t.base }

-- this type without dimensions
abbrev pub is_base : Base → Ty → Bool
is_base b t = nat_eq t.dims 0 && base_eq t.base b

abbrev pub is_long : Ty → Bool
is_long t = is_base base.J t

-- how many words a value of the type has: a long has two
abbrev pub words_of : Ty → ℕ
words_of t = elim (is_long t) [ true ↦ 2 | false ↦ 1 ]

abbrev pub words_of_all : List Ty → ℕ
words_of_all [] = 0
words_of_all (t ∷ ts) = words_of t + words_of_all ts

abbrev pub same_types : List Ty → List Ty → Bool
same_types [] [] = true
same_types (a ∷ ts) (b ∷ us) = ty_eq a b && same_types ts us
same_types ts us = false

abbrev pub same_result : Option Ty → Option Ty → Bool
same_result None None = true
same_result (Some a) (Some b) = ty_eq a b
same_result a b = false

abbrev pub same_proto : Proto → Proto → Bool
same_proto p q = same_types p.params q.params && same_result p.ret q.ret

abbrev pub field_eq : FieldRef → FieldRef → Bool
field_eq a b = ty_eq a.class b.class && (bytes_eq a.name b.name && ty_eq a.ty b.ty)

abbrev pub method_eq : MethodRef → MethodRef → Bool
method_eq a b = ty_eq a.class b.class && (bytes_eq a.name b.name && same_proto a.proto b.proto)
