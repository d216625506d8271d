-- Where references to members lead (JVMS 5.4.3.2 and 5.4.3.3, as AOSP's linker has them).
use Rattle.std.specs.Prelude.{ℕ, zero, suc, Bool, true, false, ◌&&◌, not, List, [], ◌∷◌, ◌++◌, length, filter, flat_map, Option, Some, None, slice_get, nat_eq, bytes_eq, option_to_list, option_and_then}
use Rattle.dv_defs.specs.declared.names.Ty.{Ty}
use Rattle.dv_defs.specs.declared.names.Proto.{Proto}
use Rattle.dv_defs.specs.declared.names.FieldRef.{FieldRef}
use Rattle.dv_defs.specs.declared.names.MethodRef.{MethodRef}
use Rattle.dv_defs.specs.declared.image.FieldInfo.{FieldInfo}
use Rattle.dv_defs.specs.Images.{Image}
use Rattle.dv_defs.specs.First.{first_in}
use Rattle.dv_defs.specs.Names.{object_name}
use Rattle.dv_defs.specs.Types.{is_array, class_in, ty_eq, same_proto}
use Rattle.dv_defs.specs.Pools.{Method, Field, class_named, parent_at, supers, with_field_info, first_of_classes}
use Rattle.dv_defs.specs.Order.{interfaces_of}

-- a class, and then, for each that stands above it, in order, the same; cut off after so many steps
abbrev pub upward : (ℕ → List ℕ) → ℕ → ℕ → List ℕ
upward above zero c = []
upward above (suc n) c = c ∷ flat_map (upward above n) (above c)

abbrev pub interfaces_at : Image → ℕ → List ℕ
interfaces_at image c = interfaces_of (slice_get image.classes c)

abbrev pub interfaces_first : Image → ℕ → List ℕ
interfaces_first image c = interfaces_at image c ++ option_to_list (parent_at image c)

-- where a field is looked for: in the class, then in its superinterfaces in order, then in its superclass, and so on
abbrev pub field_classes : Image → ℕ → List ℕ
field_classes image c = upward (interfaces_first image) (length image.classes) c

-- the interfaces that a class names and those above them, depth first
abbrev pub interfaces_above : Image → ℕ → List ℕ
interfaces_above image c = flat_map (upward (interfaces_at image) (length image.classes)) (interfaces_at image c)

-- the superinterfaces of a class, its own before those of its superclass
abbrev pub superinterfaces : Image → ℕ → List ℕ
superinterfaces image c = flat_map (interfaces_above image) (supers image c)

-- each number once, where it stands first
abbrev pub once : List ℕ → List ℕ
once [] = []
once (c ∷ cs) = c ∷ filter (λ d. not (nat_eq c d)) (once cs)

-- where a method is looked for: in the class, then in its superclasses, nearest first, then in all superinterfaces in order
abbrev pub method_classes : Image → ℕ → List ℕ
method_classes image c = supers image c ++ superinterfaces image c

-- the first of these fields, numbered from an id on, that a test picks
abbrev pub pick_field : Image → List FieldInfo → ℕ → (Field → Bool) → Option Field
pick_field image [] id good = None
pick_field image (i ∷ is) id good =
    elim (with_field_info image id (Some i)) [
      | None ↦ pick_field image is (suc id) good
      | Some f ↦ elim (good f) [ true ↦ Some f | false ↦ pick_field image is (suc id) good ]
    ]

abbrev pub is_field_of : List ℕ → Ty → Field → Bool
is_field_of name t f = bytes_eq f.def.name name && ty_eq f.def.ty t

-- the field that a class declares under a name and a type
abbrev pub field_declared : Image → List ℕ → Ty → ℕ → Option Field
field_declared image name t c = pick_field image image.fields 0 (λ f. nat_eq f.info.class.0 c && is_field_of name t f)

unfoldable pub field_found : Image → ℕ → List ℕ → Ty → Option Field
field_found image c name t = first_in (field_declared image name t) (field_classes image c)

abbrev pub is_method_of : List ℕ → Proto → Method → Bool
is_method_of name proto m = bytes_eq m.def.name name && same_proto m.def.proto proto

unfoldable pub method_found : Image → ℕ → List ℕ → Proto → Option Method
method_found image c name proto = first_of_classes image (method_classes image c) (is_method_of name proto)

-- the class in which a reference's look-up begins: of an array type it is Object
abbrev pub class_referred : Image → Ty → Option ℕ
class_referred image t =
    elim (is_array t) [ true ↦ class_named image object_name | false ↦ option_and_then (class_named image) (class_in t.base) ]

abbrev pub field_named : Image → FieldRef → Option Field
field_named image r = option_and_then (λ c. field_found image c r.name r.ty) (class_referred image r.class)

abbrev pub method_named : Image → MethodRef → Option Method
method_named image r = option_and_then (λ c. method_found image c r.name r.proto) (class_referred image r.class)
