-- Two images that are alike but for slots, tables and resolved pools give the same look-ups.
use Rattle.std.specs.Prelude.{ℕ, ◌≡◌, Bool, List, length, Option, Some, None, slice_get, option_map}
use Rattle.std.proofs.Common.{refl, sym, ap, ◌∙◌}
use Rattle.dv_defs.specs.declared.names.Ty.{Ty}
use Rattle.dv_defs.specs.declared.names.Proto.{Proto}
use Rattle.dv_defs.specs.declared.names.FieldRef.{FieldRef}
use Rattle.dv_defs.specs.declared.names.MethodRef.{MethodRef}
use Rattle.dv_defs.specs.declared.class.ClassDef.{ClassDef}
use Rattle.dv_defs.specs.Images.{Image}
use Rattle.dv_defs.specs.Pools.{Method, Field, class_named, parent_at, name_at, flags_of, methods_of, fields_of, is_interface, method_at, field_at, declared_by, nearest, supers, initialiser}
use Rattle.dv_defs.specs.Order.{above, reaches, implements}
use Rattle.dv_defs.specs.LookUp.{interfaces_at, field_classes, field_found, superinterfaces, method_classes, method_found, class_referred, field_named, method_named}
use Rattle.dv_defs.specs.Numbering.{numbered}
use Rattle.dv_defs.specs.Linked.{main_of, main_found, slotted, tabled, resolved}
use Rattle.law_linking.specs.Stripped.{stripped, method_stripped, field_stripped}
use Rattle.law_linking.proofs.Alike.{stripped_numbered, stripped_slotted, stripped_tabled, stripped_linked, stripped_length, stripped_class_named, stripped_name_at, stripped_parent_at, stripped_flags, stripped_methods_of, stripped_fields_of, stripped_interfaces, stripped_is_interface, stripped_supers, stripped_above, stripped_reaches, stripped_implements, stripped_superinterfaces, stripped_method_classes, stripped_field_classes}
use Rattle.law_linking.proofs.AlikeMembers.{KeepsMethods, stripped_method_at, stripped_field_at, stripped_declared_by, stripped_nearest, stripped_initialiser, stripped_field_found, stripped_method_found, stripped_class_referred, stripped_field_named, stripped_method_named, found_stripped, stripped_main_of, stripped_main_found}

-- alike but for slots, tables and resolved pools
abbrev pub AreAlike : Image → Image → Type 0
AreAlike a b = stripped a ≡ stripped b

-- ---- what linking makes of an image is like it

pub alike_back : (a b : Image) → AreAlike a b → AreAlike b a
alike_back a b alike = sym alike

pub alike_slotted : (cs : List ClassDef) (boot : ℕ) → AreAlike (slotted (numbered cs boot)) (numbered cs boot)
alike_slotted cs boot = stripped_slotted (numbered cs boot)

pub alike_tabled : (cs : List ClassDef) (boot : ℕ) → AreAlike (tabled (slotted (numbered cs boot))) (numbered cs boot)
alike_tabled cs boot = stripped_tabled (slotted (numbered cs boot)) ∙ stripped_slotted (numbered cs boot)

pub alike_linked : (cs : List ClassDef) (boot : ℕ) → AreAlike (resolved (tabled (slotted (numbered cs boot)))) (numbered cs boot)
alike_linked cs boot = stripped_linked cs boot ∙ sym (stripped_numbered cs boot)

-- ---- from what holds of the stripped image

-- what an image gives as it does without slots, tables and pools, two alike both give
pub alike_by : {Y : Type 0} (of : Image → Y) → ((image : Image) → of (stripped image) ≡ of image) → (a b : Image) → AreAlike a b → of a ≡ of b
alike_by of kept a b alike = sym (kept a) ∙ ap of alike ∙ kept b

abbrev pub method_id : Option Method → Option ℕ
method_id o = option_map (λ (m : Method). m.id) o

abbrev pub field_id : Option Field → Option ℕ
field_id o = option_map (λ (f : Field). f.id) o

method_id_kept : (o : Option Method) → method_id (option_map method_stripped o) ≡ method_id o
method_id_kept None = refl
method_id_kept (Some m) = refl

field_id_kept : (o : Option Field) → field_id (option_map field_stripped o) ≡ field_id o
field_id_kept None = refl
field_id_kept (Some f) = refl

pub alike_method_id : (of : Image → Option Method) → ((image : Image) → of (stripped image) ≡ option_map method_stripped (of image)) → (a b : Image) → AreAlike a b → option_map (λ m. m.id) (of a) ≡ option_map (λ m. m.id) (of b)
alike_method_id of kept a b alike =
    alike_by (λ image. method_id (of image)) (λ image. ap method_id (kept image) ∙ method_id_kept (of image)) a b alike

pub alike_field_id : (of : Image → Option Field) → ((image : Image) → of (stripped image) ≡ option_map field_stripped (of image)) → (a b : Image) → AreAlike a b → option_map (λ f. f.id) (of a) ≡ option_map (λ f. f.id) (of b)
alike_field_id of kept a b alike =
    alike_by (λ image. field_id (of image)) (λ image. ap field_id (kept image) ∙ field_id_kept (of image)) a b alike

-- the members whole, but for slots and pools
pub alike_method : (of : Image → Option Method) → ((image : Image) → of (stripped image) ≡ option_map method_stripped (of image)) → (a b : Image) → AreAlike a b → option_map method_stripped (of a) ≡ option_map method_stripped (of b)
alike_method of kept a b alike = sym (kept a) ∙ ap of alike ∙ kept b

pub alike_field : (of : Image → Option Field) → ((image : Image) → of (stripped image) ≡ option_map field_stripped (of image)) → (a b : Image) → AreAlike a b → option_map field_stripped (of a) ≡ option_map field_stripped (of b)
alike_field of kept a b alike = sym (kept a) ∙ ap of alike ∙ kept b

-- and what a test says of them that slots and pools don't change
pub alike_by_method : {Y : Type 0} (of : Image → Option Method) → ((image : Image) → of (stripped image) ≡ option_map method_stripped (of image)) → (said : Option Method → Y) → ((o : Option Method) → said (option_map method_stripped o) ≡ said o) → (a b : Image) → AreAlike a b → said (of a) ≡ said (of b)
alike_by_method of kept said same a b alike =
    alike_by (λ image. said (of image)) (λ image. ap said (kept image) ∙ same (of image)) a b alike

pub alike_by_field : {Y : Type 0} (of : Image → Option Field) → ((image : Image) → of (stripped image) ≡ option_map field_stripped (of image)) → (said : Option Field → Y) → ((o : Option Field) → said (option_map field_stripped o) ≡ said o) → (a b : Image) → AreAlike a b → said (of a) ≡ said (of b)
alike_by_field of kept said same a b alike =
    alike_by (λ image. said (of image)) (λ image. ap said (kept image) ∙ same (of image)) a b alike

-- ---- classes

pub alike_length : (a b : Image) → AreAlike a b → length a.classes ≡ length b.classes
alike_length = alike_by (λ image. length image.classes) stripped_length

pub alike_class_named : (a b : Image) → AreAlike a b → (name : List ℕ) → class_named a name ≡ class_named b name
alike_class_named a b alike name = alike_by (λ image. class_named image name) (λ image. stripped_class_named image name) a b alike

pub alike_name_at : (a b : Image) → AreAlike a b → (c : ℕ) → name_at a c ≡ name_at b c
alike_name_at a b alike c = alike_by (λ image. name_at image c) (λ image. stripped_name_at image c) a b alike

pub alike_parent_at : (a b : Image) → AreAlike a b → (c : ℕ) → parent_at a c ≡ parent_at b c
alike_parent_at a b alike c = alike_by (λ image. parent_at image c) (λ image. stripped_parent_at image c) a b alike

pub alike_flags : (a b : Image) → AreAlike a b → (c : ℕ) → flags_of (slice_get a.classes c) ≡ flags_of (slice_get b.classes c)
alike_flags a b alike c = alike_by (λ image. flags_of (slice_get image.classes c)) (λ image. stripped_flags image c) a b alike

pub alike_methods_of : (a b : Image) → AreAlike a b → (c : ℕ) → methods_of (slice_get a.classes c) ≡ methods_of (slice_get b.classes c)
alike_methods_of a b alike c = alike_by (λ image. methods_of (slice_get image.classes c)) (λ image. stripped_methods_of image c) a b alike

pub alike_fields_of : (a b : Image) → AreAlike a b → (c : ℕ) → fields_of (slice_get a.classes c) ≡ fields_of (slice_get b.classes c)
alike_fields_of a b alike c = alike_by (λ image. fields_of (slice_get image.classes c)) (λ image. stripped_fields_of image c) a b alike

pub alike_interfaces : (a b : Image) → AreAlike a b → (c : ℕ) → interfaces_at a c ≡ interfaces_at b c
alike_interfaces a b alike c = alike_by (λ image. interfaces_at image c) (λ image. stripped_interfaces image c) a b alike

pub alike_is_interface : (a b : Image) → AreAlike a b → (c : ℕ) → is_interface a c ≡ is_interface b c
alike_is_interface a b alike c = alike_by (λ image. is_interface image c) (λ image. stripped_is_interface image c) a b alike

pub alike_supers : (a b : Image) → AreAlike a b → (c : ℕ) → supers a c ≡ supers b c
alike_supers a b alike c = alike_by (λ image. supers image c) (λ image. stripped_supers image c) a b alike

pub alike_above : (a b : Image) → AreAlike a b → (c : ℕ) → above a c ≡ above b c
alike_above a b alike c = alike_by (λ image. above image c) (λ image. stripped_above image c) a b alike

pub alike_reaches : (a b : Image) → AreAlike a b → (n d c : ℕ) → reaches a n d c ≡ reaches b n d c
alike_reaches a b alike n d c = alike_by (λ image. reaches image n d c) (λ image. stripped_reaches image n d c) a b alike

pub alike_implements : (a b : Image) → AreAlike a b → (c d : ℕ) → implements a c d ≡ implements b c d
alike_implements a b alike c d = alike_by (λ image. implements image c d) (λ image. stripped_implements image c d) a b alike

pub alike_superinterfaces : (a b : Image) → AreAlike a b → (c : ℕ) → superinterfaces a c ≡ superinterfaces b c
alike_superinterfaces a b alike c = alike_by (λ image. superinterfaces image c) (λ image. stripped_superinterfaces image c) a b alike

pub alike_method_classes : (a b : Image) → AreAlike a b → (c : ℕ) → method_classes a c ≡ method_classes b c
alike_method_classes a b alike c = alike_by (λ image. method_classes image c) (λ image. stripped_method_classes image c) a b alike

pub alike_field_classes : (a b : Image) → AreAlike a b → (c : ℕ) → field_classes a c ≡ field_classes b c
alike_field_classes a b alike c = alike_by (λ image. field_classes image c) (λ image. stripped_field_classes image c) a b alike

pub alike_class_referred : (a b : Image) → AreAlike a b → (t : Ty) → class_referred a t ≡ class_referred b t
alike_class_referred a b alike t = alike_by (λ image. class_referred image t) (λ image. stripped_class_referred image t) a b alike

-- ---- members

pub alike_declared_by : (a b : Image) → AreAlike a b → (c : ℕ) (good : Method → Bool) → KeepsMethods good → option_map (λ m. m.id) (declared_by a c good) ≡ option_map (λ m. m.id) (declared_by b c good)
alike_declared_by a b alike c good keeps = alike_method_id (λ image. declared_by image c good) (λ image. stripped_declared_by image c good keeps) a b alike

pub alike_nearest : (a b : Image) → AreAlike a b → (c : ℕ) (name : List ℕ) (p : Proto) → option_map (λ m. m.id) (nearest a c name p) ≡ option_map (λ m. m.id) (nearest b c name p)
alike_nearest a b alike c name p = alike_method_id (λ image. nearest image c name p) (λ image. stripped_nearest image c name p) a b alike

pub alike_initialiser : (a b : Image) → AreAlike a b → (c : ℕ) → option_map (λ m. m.id) (initialiser a c) ≡ option_map (λ m. m.id) (initialiser b c)
alike_initialiser a b alike c = alike_method_id (λ image. initialiser image c) (λ image. stripped_initialiser image c) a b alike

pub alike_method_found : (a b : Image) → AreAlike a b → (c : ℕ) (name : List ℕ) (p : Proto) → option_map (λ m. m.id) (method_found a c name p) ≡ option_map (λ m. m.id) (method_found b c name p)
alike_method_found a b alike c name p = alike_method_id (λ image. method_found image c name p) (λ image. stripped_method_found image c name p) a b alike

pub alike_method_named : (a b : Image) → AreAlike a b → (r : MethodRef) → option_map (λ m. m.id) (method_named a r) ≡ option_map (λ m. m.id) (method_named b r)
alike_method_named a b alike r = alike_method_id (λ image. method_named image r) (λ image. stripped_method_named image r) a b alike

pub alike_field_found : (a b : Image) → AreAlike a b → (c : ℕ) (name : List ℕ) (t : Ty) → option_map (λ f. f.id) (field_found a c name t) ≡ option_map (λ f. f.id) (field_found b c name t)
alike_field_found a b alike c name t = alike_field_id (λ image. field_found image c name t) (λ image. stripped_field_found image c name t) a b alike

pub alike_field_named : (a b : Image) → AreAlike a b → (r : FieldRef) → option_map (λ f. f.id) (field_named a r) ≡ option_map (λ f. f.id) (field_named b r)
alike_field_named a b alike r = alike_field_id (λ image. field_named image r) (λ image. stripped_field_named image r) a b alike

pub alike_main_of : (a b : Image) → AreAlike a b → (c : ℕ) → option_map (λ m. m.id) (main_of a c) ≡ option_map (λ m. m.id) (main_of b c)
alike_main_of a b alike c = alike_method_id (λ image. main_of image c) (λ image. stripped_main_of image c) a b alike

pub alike_main_found : (a b : Image) → AreAlike a b → (name : List ℕ) → found_stripped (main_found a name) ≡ found_stripped (main_found b name)
alike_main_found a b alike name = sym (stripped_main_found a name) ∙ ap (λ image. main_found image name) alike ∙ stripped_main_found b name

-- the members of a number, but for slots and pools
pub alike_method_at : (a b : Image) → AreAlike a b → (id : ℕ) → option_map method_stripped (method_at a id) ≡ option_map method_stripped (method_at b id)
alike_method_at a b alike id = alike_method (λ image. method_at image id) (λ image. stripped_method_at image id) a b alike

pub alike_field_at : (a b : Image) → AreAlike a b → (id : ℕ) → option_map field_stripped (field_at a id) ≡ option_map field_stripped (field_at b id)
alike_field_at a b alike id = alike_field (λ image. field_at image id) (λ image. stripped_field_at image id) a b alike
