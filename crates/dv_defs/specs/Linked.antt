-- What linking gives of classes: an image, or the first fault.
use Rattle.std.specs.Prelude.{◌≡◌, ◌≢◌, ℕ, ◌+◌, Bool, true, false, ◌&&◌, ◌||◌, not, List, [], ◌∷◌, ◌++◌, length, map, filter, filter_map, All, Option, Some, None, is_some, Result, Ok, Err, slice_get, slice_index_or, nat_eq, bytes_eq, option_and_then, IsTrue}
use Rattle.std.specs.Option.{option_or}
use Rattle.std.specs.List.{list_any, range_with_len, enumerate_from, position_or_len}
use Rattle.dv_defs.specs.declared.names.Proto.{Proto}
use Rattle.dv_defs.specs.declared.names.ClassId.{ClassId}
use Rattle.dv_defs.specs.declared.names.FieldId.{FieldId}
use Rattle.dv_defs.specs.declared.names.MethodId.{MethodId}
use Rattle.dv_defs.specs.declared.image.Select.{Select}
use Rattle.dv_defs.specs.declared.code.Body.{Body}
use Rattle.dv_defs.specs.declared.class.ClassDef.{ClassDef}
use Rattle.dv_defs.specs.declared.class.MethodDef.{MethodDef}
use Rattle.dv_defs.specs.declared.image.ClassInfo.{ClassInfo}
use Rattle.dv_defs.specs.declared.image.FieldInfo.{FieldInfo}
use Rattle.dv_defs.specs.declared.image.MethodInfo.{MethodInfo}
use Rattle.dv_defs.specs.declared.faults.LinkKind.TheVariants as kind
use Rattle.dv_defs.specs.Images.{Image}
use Rattle.dv_defs.specs.Names.{string_name, main_name}
use Rattle.dv_defs.specs.Types.{of_class, words_of, same_proto}
use Rattle.dv_defs.specs.Field.{may_stand}
use Rattle.dv_defs.specs.Pools.{Method, Field, method_at, field_at, methods_of, class_named, supers, declared_by, is_static, is_static_field, is_interface, no_arguments}
use Rattle.dv_defs.specs.Common.{array_of}
use Rattle.dv_defs.specs.Order.{numbers, implements}
use Rattle.dv_defs.specs.LookUp.{field_named, method_named, interfaces_above, once, is_method_of}
use Rattle.dv_defs.specs.Selecting.{callable_of_class, all_methods, offered, selected}
use Rattle.dv_defs.specs.Prior.{prior_at}
use Rattle.dv_defs.specs.Numbering.{declared, numbered, names_of}
use Rattle.dv_defs.specs.LinkFaults.{Found, found, first_fault_by, boot_fault, limit_fault, is_twice, wrong_above, on_cycle, has_field_twice, wrong_methods, wrong_pools}

-- ---- cells of objects

-- static fields have no cell in an object, and neither have the instance fields of interfaces
abbrev pub has_cells : Image → Field → Bool
has_cells image f = not (is_static_field f) && not (is_interface image f.info.class.0)

abbrev pub all_fields : Image → List Field
all_fields image = filter_map (field_at image) (range_with_len 0 (length image.fields))

abbrev pub cells_of_class : Image → ℕ → List FieldId
cells_of_class image c = map (λ f. record { 0 = f.id }) (filter (λ f. nat_eq f.info.class.0 c && has_cells image f) (all_fields image))

-- of a class and its superclasses, nearest first: the superclass's cells come before the class's own
abbrev pub cells_along : Image → List ℕ → List FieldId
cells_along image [] = []
cells_along image (c ∷ cs) = cells_along image cs ++ cells_of_class image c

abbrev pub slots_at : Image → ℕ → List FieldId
slots_at image c = cells_along image (supers image c)

-- a long has two
abbrev pub words_at : Image → ℕ → ℕ
words_at image x = elim (field_at image x) [ None ↦ 0 | Some f ↦ words_of f.def.ty ]

abbrev pub words_before : Image → ℕ → List FieldId → ℕ
words_before image x [] = 0
words_before image x (y ∷ ys) = elim (nat_eq y.0 x) [ true ↦ 0 | false ↦ words_at image y.0 + words_before image x ys ]

-- the place of a field's first cell
abbrev pub slot_of : Image → Field → ℕ
slot_of image f = elim (has_cells image f) [ true ↦ words_before image f.id (slots_at image f.info.class.0) | false ↦ 0 ]

abbrev pub slot_at : Image → ℕ → ℕ
slot_at image x = elim (field_at image x) [ None ↦ 0 | Some f ↦ slot_of image f ]

abbrev pub field_with_slot : Image → ℕ × FieldInfo → FieldInfo
field_with_slot image f = record { class = f.1.class; place = f.1.place; slot = slot_at image f.0 }

-- ---- tables of methods

abbrev pub overrides : Method → Method → Bool
overrides m n = bytes_eq n.def.name m.def.name && same_proto n.def.proto m.def.proto

abbrev pub is_new : List Method → Method → Bool
is_new ms m = not (list_any (overrides m) ms)

-- of a class and its superclasses, nearest first: the first method of each name and prototype, the superclass's places before new ones
abbrev pub callable_along : Image → List ℕ → List Method
callable_along image [] = []
callable_along image (c ∷ cs) = callable_along image cs ++ filter (is_new (callable_along image cs)) (callable_of_class image c)

-- each of some methods whose name and prototype no earlier one has
abbrev pub first_of_each : List Method → List Method
first_of_each [] = []
first_of_each (m ∷ ms) = m ∷ filter (λ n. not (overrides m n)) (first_of_each ms)

-- a method for each name and prototype that a class's table has: those of the class and its superclasses, then what interfaces offer beside them
abbrev pub keyed_at : Image → ℕ → List Method
keyed_at image c =
    callable_along image (supers image c) ++
    first_of_each (filter (is_new (callable_along image (supers image c))) (offered image c))

-- each place of a class's table has what a call on an object of the class selects
abbrev pub entry : Image → ℕ → Method → Select
entry image c m = selected image c m.def.name m.def.proto

abbrev pub table_at : Image → ℕ → List Select
table_at image c = map (entry image c) (keyed_at image c)

-- the classes that are initialised before a class
abbrev pub priors_at : Image → ℕ → List ClassId
priors_at image c = map (λ p. record { 0 = p }) (prior_at image c)

-- ---- pools

abbrev pub body_in : Option MethodDef → Option Body
body_in m = option_and_then (λ m. m.body) m

abbrev pub body_at : Image → MethodInfo → Option Body
body_at image i = body_in (slice_get (methods_of (slice_get image.classes i.class.0)) i.place)

abbrev pub field_ids : Image → Body → List FieldId
field_ids image b = map (λ f. record { 0 = f.id }) (filter_map (field_named image) b.fields)

abbrev pub method_ids : Image → Body → List MethodId
method_ids image b = map (λ m. record { 0 = m.id }) (filter_map (method_named image) b.methods)

abbrev pub method_with_pools : Image → MethodInfo → MethodInfo
method_with_pools image i =
    elim (body_at image i) [
      | None ↦ i
      | Some b ↦ record { class = i.class; place = i.place; types = b.types; fields = field_ids image b; methods = method_ids image b }
    ]

-- ---- the image whole

abbrev pub class_with_slots : Image → ℕ × ClassInfo → ClassInfo
class_with_slots image c =
    record { def = c.1.def; parent = c.1.parent; interfaces = c.1.interfaces; slots = slots_at image c.0; table = c.1.table; prior = c.1.prior }

abbrev pub class_with_table : Image → ℕ × ClassInfo → ClassInfo
class_with_table image c =
    record { def = c.1.def; parent = c.1.parent; interfaces = c.1.interfaces; slots = c.1.slots; table = table_at image c.0; prior = priors_at image c.0 }

-- with the cells of objects
unfoldable pub slotted : Image → Image
slotted image =
    record {
      classes = map (class_with_slots image) (enumerate_from 0 image.classes);
      methods = image.methods;
      fields = map (field_with_slot image) (enumerate_from 0 image.fields);
      boot = image.boot;
    }

-- with tables of methods, and the classes that are initialised before each
unfoldable pub tabled : Image → Image
tabled image =
    record {
      classes = map (class_with_table image) (enumerate_from 0 image.classes);
      methods = image.methods;
      fields = image.fields;
      boot = image.boot;
    }

-- with the pools of bodies
unfoldable pub resolved : Image → Image
resolved image =
    record {
      classes = image.classes;
      methods = map (method_with_pools image) image.methods;
      fields = image.fields;
      boot = image.boot;
    }

-- ---- phase by phase

-- the boot classes, limits, names, what stands above, cycles, fields
unfoldable pub first_phases : List ClassDef → ℕ → Option Found
first_phases cs boot =
    option_or (boot_fault cs boot)
    (option_or (limit_fault cs boot)
    (option_or (first_fault_by (is_twice (declared cs boot)) cs)
    (option_or (first_fault_by (wrong_above (declared cs boot)) cs)
    (option_or (first_fault_by (on_cycle (numbered cs boot)) cs) (first_fault_by has_field_twice cs)))))

-- methods
unfoldable pub method_phase : List ClassDef → ℕ → Option Found
method_phase cs boot = first_fault_by (wrong_methods (numbered cs boot)) cs

-- pools
unfoldable pub pool_phase : List ClassDef → ℕ → Option Found
pool_phase cs boot = first_fault_by (wrong_pools (numbered cs boot)) cs

abbrev pub unless_found : {Y : Type 0} → Option Found → Y → Result Y Found
unless_found None y = Ok y
unless_found (Some fault) y = Err fault

unfoldable pub linked : List ClassDef → ℕ → Result Image Found
linked cs boot =
    unless_found (option_or (first_phases cs boot) (option_or (method_phase cs boot) (pool_phase cs boot)))
    (resolved (tabled (slotted (numbered cs boot))))

-- ---- what an image keeps

abbrev pub defs : List ClassInfo → List ClassDef
defs cs = map (λ c. c.def) cs

-- each class has a name
abbrev pub AreNamed : List ClassDef → Type 0
AreNamed cs = All (λ c. c.name ≢ []) cs

-- a value stands on a static field that it fits
abbrev pub HasValues : ClassDef → Type 0
HasValues c = All (λ f. IsTrue (may_stand f.init f.ty f.flags)) c.fields

-- an image is what linking gives of the definitions in it
pub record IsImage (image : Image) : Type 0 where
  pub is_linked : linked (defs image.classes) image.boot ≡ Ok image
  pub named : AreNamed (defs image.classes)
  pub values : All HasValues (defs image.classes)

-- the number of a name and prototype: that of the first method which has them
abbrev pub key_number : Image → List ℕ → Proto → ℕ
key_number image name proto = position_or_len (is_method_of name proto) (all_methods image)

abbrev pub key_of : Image → Method → ℕ
key_of image m = key_number image m.def.name m.def.proto

-- what an image's classes are looked up by: their names; of each class the interfaces that it names and those above them, and whether
-- each class is above it; of each method, and of each place of a table, the number of its name and prototype
pub record IsIndex (names : List (List ℕ)) (interfaces : List (List ClassId)) (ancestors : List (List Bool)) (keys : List ℕ) (places : List (List ℕ)) (image : Image) : Type 0 where
  pub names_are : names ≡ names_of image.classes
  pub interfaces_are : (c : ℕ) → numbers (slice_index_or interfaces c []) ≡ once (interfaces_above image c)
  pub ancestors_are : (c d : ℕ) → (nat_eq c d || slice_index_or (slice_index_or ancestors c []) d false) ≡ implements image c d
  pub keys_are : (n : ℕ) (m : Method) → method_at image n ≡ Some m → slice_get keys n ≡ Some (key_of image m)
  pub places_are : (c : ℕ) → slice_index_or places c [] ≡ map (key_of image) (keyed_at image c)

-- ---- the main method

abbrev pub with_arguments : Proto
with_arguments = record { params = array_of (of_class string_name) ∷ []; ret = None }

-- a static method main of this prototype with a body
abbrev pub is_main_with : Proto → Method → Bool
is_main_with p m = is_static m && bytes_eq m.def.name main_name && same_proto m.def.proto p && is_some m.def.body

-- main with arguments is preferred
abbrev pub main_of : Image → ℕ → Option Method
main_of image c = option_or (declared_by image c (is_main_with with_arguments)) (declared_by image c (is_main_with no_arguments))

-- the main method that the class of a name declares itself, or why there is none
unfoldable pub main_found : Image → List ℕ → Result Method Found
main_found image name =
    elim (class_named image name) [
      | None ↦ Err (found name (kind.NoClass name))
      | Some c ↦ elim (main_of image c) [ None ↦ Err (found name kind.NoMain) | Some m ↦ Ok m ]
    ]
