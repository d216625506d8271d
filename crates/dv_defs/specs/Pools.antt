-- What an image says of its classes, methods and fields.
use Rattle.std.specs.Prelude.{ℕ, zero, suc, Bool, true, false, ◌&&◌, not, List, [], ◌∷◌, length, Option, Some, None, is_some, slice_get, nat_eq, bytes_eq}
use Rattle.dv_defs.specs.declared.names.Ty.{Ty}
use Rattle.dv_defs.specs.declared.names.Proto.{Proto}
use Rattle.dv_defs.specs.declared.names.ClassId.{ClassId}
use Rattle.dv_defs.specs.declared.class.MethodDef.{MethodDef}
use Rattle.dv_defs.specs.declared.class.FieldDef.{FieldDef}
use Rattle.dv_defs.specs.Images.{Image}
use Rattle.dv_defs.specs.declared.image.ClassInfo.{ClassInfo}
use Rattle.dv_defs.specs.declared.image.MethodInfo.{MethodInfo}
use Rattle.dv_defs.specs.declared.image.FieldInfo.{FieldInfo}
use Rattle.dv_defs.specs.declared.flags.Flag.TheVariants as flag
use Rattle.dv_defs.specs.Flags.{has_flag}
use Rattle.dv_defs.specs.Names.{object_name, init_name, clinit_name}
use Rattle.dv_defs.specs.Types.{of_class, same_proto}

abbrev pub class_number : Option ClassId → Option ℕ
class_number None = None
class_number (Some c) = Some c.0

abbrev pub parent_of : Option ClassInfo → Option ℕ
parent_of None = None
parent_of (Some c) = class_number c.parent

abbrev pub parent_at : Image → ℕ → Option ℕ
parent_at image c = parent_of (slice_get image.classes c)

abbrev pub declared_name : Option ClassInfo → List ℕ
declared_name None = []
declared_name (Some c) = c.def.name

abbrev pub name_at : Image → ℕ → List ℕ
name_at image c = declared_name (slice_get image.classes c)

abbrev pub class_type : Image → ℕ → Ty
class_type image c = of_class (name_at image c)

abbrev pub find_from : List ClassInfo → ℕ → List ℕ → Option ℕ
find_from [] k name = None
find_from (c ∷ cs) k name = elim (bytes_eq c.def.name name) [ true ↦ Some k | false ↦ find_from cs (suc k) name ]

-- the class of a name; no two classes of a linked image have one name
unfoldable pub class_named : Image → List ℕ → Option ℕ
class_named image name = find_from image.classes 0 name

-- a class, its superclass, and so on
abbrev pub walk : Image → ℕ → Option ℕ → List ℕ
walk image zero c = []
walk image (suc n) None = []
walk image (suc n) (Some c) = c ∷ walk image n (parent_at image c)

-- a class and its superclasses, nearest first: no chain of them is longer than the list of classes
abbrev pub supers : Image → ℕ → List ℕ
supers image c = walk image (length image.classes) (Some c)

abbrev pub flags_of : Option ClassInfo → ℕ
flags_of None = 0
flags_of (Some c) = c.def.flags

abbrev pub is_interface : Image → ℕ → Bool
is_interface image c = has_flag (flags_of (slice_get image.classes c)) flag.Interface

abbrev pub is_abstract_class : Image → ℕ → Bool
is_abstract_class image c = has_flag (flags_of (slice_get image.classes c)) flag.Abstract

-- a method with the class that declares it
pub record Method : Type 0 where
  pub id : ℕ
  pub info : MethodInfo
  pub def : MethodDef

abbrev pub with_def : ℕ → MethodInfo → Option MethodDef → Option Method
with_def id info None = None
with_def id info (Some def) = Some (record { id = id; info = info; def = def })

abbrev pub methods_of : Option ClassInfo → List MethodDef
methods_of None = []
methods_of (Some c) = c.def.methods

abbrev pub with_info : Image → ℕ → Option MethodInfo → Option Method
with_info image id None = None
with_info image id (Some info) = with_def id info (slice_get (methods_of (slice_get image.classes info.class.0)) info.place)

unfoldable pub method_at : Image → ℕ → Option Method
method_at image id = with_info image id (slice_get image.methods id)

-- a field with the class that declares it
pub record Field : Type 0 where
  pub id : ℕ
  pub info : FieldInfo
  pub def : FieldDef

abbrev pub with_field : ℕ → FieldInfo → Option FieldDef → Option Field
with_field id info None = None
with_field id info (Some def) = Some (record { id = id; info = info; def = def })

abbrev pub fields_of : Option ClassInfo → List FieldDef
fields_of None = []
fields_of (Some c) = c.def.fields

abbrev pub with_field_info : Image → ℕ → Option FieldInfo → Option Field
with_field_info image id None = None
with_field_info image id (Some info) = with_field id info (slice_get (fields_of (slice_get image.classes info.class.0)) info.place)

unfoldable pub field_at : Image → ℕ → Option Field
field_at image id = with_field_info image id (slice_get image.fields id)

abbrev pub is_static_field : Field → Bool
is_static_field x = has_flag x.def.flags flag.Static

abbrev pub is_static : Method → Bool
is_static m = has_flag m.def.flags flag.Static

abbrev pub is_private : Method → Bool
is_private m = has_flag m.def.flags flag.Private

abbrev pub is_native : Method → Bool
is_native m = has_flag m.def.flags flag.Native

abbrev pub is_abstract : Method → Bool
is_abstract m = has_flag m.def.flags flag.Abstract

-- a constructor is an instance method named <init> (JVMS 2.9.1, as in AOSP's bytecode constraints)
abbrev pub is_constructor : Method → Bool
is_constructor m = not (is_static m) && bytes_eq m.def.name init_name

abbrev pub own_type : Image → Method → Ty
own_type image m = class_type image m.info.class.0

-- a method of Object itself
abbrev pub is_of_object : Image → Method → Bool
is_of_object image m = bytes_eq (name_at image m.info.class.0) object_name

-- the first of these methods, numbered from an id on, that a test picks
abbrev pub pick : Image → List MethodInfo → ℕ → (Method → Bool) → Option Method
pick image [] id good = None
pick image (i ∷ is) id good =
    elim (with_info image id (Some i)) [
      | None ↦ pick image is (suc id) good
      | Some m ↦ elim (good m) [ true ↦ Some m | false ↦ pick image is (suc id) good ]
    ]

abbrev pub declared_by : Image → ℕ → (Method → Bool) → Option Method
declared_by image c good = pick image image.methods 0 (λ m. nat_eq m.info.class.0 c && good m)

-- an instance method of this name and prototype that is not private
abbrev pub is_virtual_of : List ℕ → Proto → Method → Bool
is_virtual_of name proto m = not (is_static m) && not (is_private m) && bytes_eq m.def.name name && same_proto m.def.proto proto

abbrev pub first_of_classes : Image → List ℕ → (Method → Bool) → Option Method
first_of_classes image [] good = None
first_of_classes image (c ∷ cs) good = elim (declared_by image c good) [ Some m ↦ Some m | None ↦ first_of_classes image cs good ]

-- the nearest such method, from a class up (JLS 15.12.4.4)
unfoldable pub nearest : Image → ℕ → List ℕ → Proto → Option Method
nearest image c name proto = first_of_classes image (supers image c) (is_virtual_of name proto)

abbrev pub no_arguments : Proto
no_arguments = record { params = []; ret = None }

-- a static method <clinit>()V with a body
abbrev pub is_initialiser : Method → Bool
is_initialiser m = is_static m && bytes_eq m.def.name clinit_name && same_proto m.def.proto no_arguments && is_some m.def.body

-- the method that initialises a class, where it declares one (JLS 12.4)
unfoldable pub initialiser : Image → ℕ → Option Method
initialiser image c = declared_by image c is_initialiser
