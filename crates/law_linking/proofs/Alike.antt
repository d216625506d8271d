-- What an image says of its classes it says without slots, tables and resolved pools.
use Rattle.std.specs.Prelude.{ℕ, zero, suc, ◌≡◌, Bool, true, false, List, [], ◌∷◌, ◌++◌, length, map, flat_map, Option, Some, None, slice_get, nat_eq, bytes_eq, option_map, option_to_list}
use Rattle.std.specs.List.{range_with_len, enumerate_from}
use Rattle.std.proofs.Common.{refl, ap, ◌∙◌, ◌+◌}
use Rattle.std.proofs.lemmas.List.{length-map, map-append}
use Rattle.std.proofs.lemmas.Option.{slice_get-map}
use Rattle.dv_defs.specs.declared.code.Body.{Body}
use Rattle.dv_defs.specs.declared.class.ClassDef.{ClassDef}
use Rattle.dv_defs.specs.declared.flags.Flag.TheVariants as flag
use Rattle.dv_defs.specs.declared.image.ClassInfo.{ClassInfo}
use Rattle.dv_defs.specs.declared.image.MethodInfo.{MethodInfo}
use Rattle.dv_defs.specs.declared.image.FieldInfo.{FieldInfo}
use Rattle.dv_defs.specs.Flags.{has_flag}
use Rattle.dv_defs.specs.Images.{Image}
use Rattle.dv_defs.specs.Pools.{find_from, class_named, parent_of, parent_at, declared_name, name_at, flags_of, methods_of, fields_of, is_interface, is_abstract_class, walk, supers}
use Rattle.dv_defs.specs.Order.{with_parent, interfaces_of, above, any_of, reaches, implements}
use Rattle.dv_defs.specs.LookUp.{upward, interfaces_at, interfaces_first, field_classes, superinterfaces, method_classes}
use Rattle.dv_defs.specs.Numbering.{class_id, methods_declared, all_methods_declared, fields_declared, all_fields_declared, class_numbered, declared, numbered}
use Rattle.dv_defs.specs.Linked.{body_at, field_ids, method_ids, method_with_pools, class_with_slots, class_with_table, field_with_slot, slotted, tabled, resolved}
use Rattle.law_linking.specs.Stripped.{class_stripped, method_info_stripped, field_info_stripped, stripped}

-- ---- what linking adds is stripped

map_twice : {X Y Z : Type 0} (f : Y → Z) (g : X → Y) (h : X → Z) → ((x : X) → f (g x) ≡ h x) → (xs : List X) → map f (map g xs) ≡ map h xs
map_twice f g h same [] = refl
map_twice f g h same (x ∷ xs) = ap (λ z. z ∷ map f (map g xs)) (same x) ∙ ap (λ zs. h x ∷ zs) (map_twice f g h same xs)

map_placed : {X Y : Type 0} (f : X → Y) (g : ℕ × X → X) → ((k : ℕ) (x : X) → f (g (k, x)) ≡ f x) → (xs : List X) (k : ℕ) → map f (map g (enumerate_from k xs)) ≡ map f xs
map_placed f g same [] k = refl
map_placed f g same (x ∷ xs) k = ap (λ y. y ∷ map f (map g (enumerate_from (k + 1) xs))) (same k x) ∙ ap (λ ys. f x ∷ ys) (map_placed f g same xs (k + 1))

abbrev image_of : List ClassInfo → List MethodInfo → List FieldInfo → ℕ → Image
image_of cs ms fs boot = record { classes = cs; methods = ms; fields = fs; boot = boot }

image_same : (cs ds : List ClassInfo) (ms ns : List MethodInfo) (fs gs : List FieldInfo) (boot : ℕ) → cs ≡ ds → ms ≡ ns → fs ≡ gs → image_of cs ms fs boot ≡ image_of ds ns gs boot
image_same cs ds ms ns fs gs boot c m f = λ j. image_of (c j) (m j) (f j) boot

methods_kept : (k : ℕ) (cs : List ClassDef) → map method_info_stripped (all_methods_declared k cs) ≡ all_methods_declared k cs
methods_kept k [] = refl
methods_kept k (c ∷ cs) =
    map-append method_info_stripped (methods_declared k c) (all_methods_declared (suc k) cs) ∙
    ap (λ ms. ms ++ map method_info_stripped (all_methods_declared (suc k) cs))
    (map_twice method_info_stripped (λ p. record { class = class_id k; place = p; types = []; fields = []; methods = [] }) (λ p. record { class = class_id k; place = p; types = []; fields = []; methods = [] }) (λ p. refl) (range_with_len 0 (length c.methods))) ∙
    ap (λ ms. methods_declared k c ++ ms) (methods_kept (suc k) cs)

fields_kept : (k : ℕ) (cs : List ClassDef) → map field_info_stripped (all_fields_declared k cs) ≡ all_fields_declared k cs
fields_kept k [] = refl
fields_kept k (c ∷ cs) =
    map-append field_info_stripped (fields_declared k c) (all_fields_declared (suc k) cs) ∙
    ap (λ fs. fs ++ map field_info_stripped (all_fields_declared (suc k) cs))
    (map_twice field_info_stripped (λ p. record { class = class_id k; place = p; slot = 0 }) (λ p. record { class = class_id k; place = p; slot = 0 }) (λ p. refl) (range_with_len 0 (length c.fields))) ∙
    ap (λ fs. fields_declared k c ++ fs) (fields_kept (suc k) cs)

pub stripped_numbered : (cs : List ClassDef) (boot : ℕ) → stripped (numbered cs boot) ≡ numbered cs boot
unfolding numbered
stripped_numbered cs boot =
    image_same (map class_stripped (map (class_numbered (declared cs boot)) cs)) (map (class_numbered (declared cs boot)) cs) (map method_info_stripped (all_methods_declared 0 cs)) (all_methods_declared 0 cs) (map field_info_stripped (all_fields_declared 0 cs)) (all_fields_declared 0 cs) boot
    (map_twice class_stripped (class_numbered (declared cs boot)) (class_numbered (declared cs boot)) (λ c. refl) cs)
    (methods_kept 0 cs)
    (fields_kept 0 cs)

pub stripped_slotted : (image : Image) → stripped (slotted image) ≡ stripped image
unfolding slotted
stripped_slotted image =
    image_same (map class_stripped (map (class_with_slots image) (enumerate_from 0 image.classes))) (map class_stripped image.classes) (map method_info_stripped image.methods) (map method_info_stripped image.methods) (map field_info_stripped (map (field_with_slot image) (enumerate_from 0 image.fields))) (map field_info_stripped image.fields) image.boot
    (map_placed class_stripped (class_with_slots image) (λ k c. refl) image.classes 0)
    refl
    (map_placed field_info_stripped (field_with_slot image) (λ k f. refl) image.fields 0)

pub stripped_tabled : (image : Image) → stripped (tabled image) ≡ stripped image
unfolding tabled
stripped_tabled image =
    image_same (map class_stripped (map (class_with_table image) (enumerate_from 0 image.classes))) (map class_stripped image.classes) (map method_info_stripped image.methods) (map method_info_stripped image.methods) (map field_info_stripped image.fields) (map field_info_stripped image.fields) image.boot
    (map_placed class_stripped (class_with_table image) (λ k c. refl) image.classes 0)
    refl
    refl

pools_dropped : (image : Image) (i : MethodInfo) (o : Option Body)
    → method_info_stripped (elim o [
      | None ↦ i
      | Some b ↦ record { class = i.class; place = i.place; types = b.types; fields = field_ids image b; methods = method_ids image b }
    ]) ≡ method_info_stripped i
pools_dropped image i None = refl
pools_dropped image i (Some b) = refl

pub stripped_resolved : (image : Image) → stripped (resolved image) ≡ stripped image
unfolding resolved
stripped_resolved image =
    image_same (map class_stripped image.classes) (map class_stripped image.classes) (map method_info_stripped (map (method_with_pools image) image.methods)) (map method_info_stripped image.methods) (map field_info_stripped image.fields) (map field_info_stripped image.fields) image.boot
    refl
    (map_twice method_info_stripped (method_with_pools image) method_info_stripped (λ i. pools_dropped image i (body_at image i)) image.methods)
    refl

-- an image that linking gives is, stripped, the numbered one
pub stripped_linked : (cs : List ClassDef) (boot : ℕ) → stripped (resolved (tabled (slotted (numbered cs boot)))) ≡ numbered cs boot
stripped_linked cs boot =
    stripped_resolved (tabled (slotted (numbered cs boot))) ∙
    stripped_tabled (slotted (numbered cs boot)) ∙
    stripped_slotted (numbered cs boot) ∙
    stripped_numbered cs boot

-- ---- one class

-- what is said of a class without slots and table is said of it in a stripped image
pub stripped_class : {Y : Type 0} (of : Option ClassInfo → Y) → ((o : Option ClassInfo) → of (option_map class_stripped o) ≡ of o) → (image : Image) (c : ℕ) → of (slice_get (stripped image).classes c) ≡ of (slice_get image.classes c)
stripped_class of same image c = ap of (slice_get-map class_stripped image.classes c) ∙ same (slice_get image.classes c)

flags_kept : (o : Option ClassInfo) → flags_of (option_map class_stripped o) ≡ flags_of o
flags_kept None = refl
flags_kept (Some c) = refl

class_methods_kept : (o : Option ClassInfo) → methods_of (option_map class_stripped o) ≡ methods_of o
class_methods_kept None = refl
class_methods_kept (Some c) = refl

class_fields_kept : (o : Option ClassInfo) → fields_of (option_map class_stripped o) ≡ fields_of o
class_fields_kept None = refl
class_fields_kept (Some c) = refl

interfaces_kept : (o : Option ClassInfo) → interfaces_of (option_map class_stripped o) ≡ interfaces_of o
interfaces_kept None = refl
interfaces_kept (Some c) = refl

name_kept : (o : Option ClassInfo) → declared_name (option_map class_stripped o) ≡ declared_name o
name_kept None = refl
name_kept (Some c) = refl

parent_kept : (o : Option ClassInfo) → parent_of (option_map class_stripped o) ≡ parent_of o
parent_kept None = refl
parent_kept (Some c) = refl

pub stripped_flags : (image : Image) (c : ℕ) → flags_of (slice_get (stripped image).classes c) ≡ flags_of (slice_get image.classes c)
stripped_flags image c = stripped_class flags_of flags_kept image c

pub stripped_methods_of : (image : Image) (c : ℕ) → methods_of (slice_get (stripped image).classes c) ≡ methods_of (slice_get image.classes c)
stripped_methods_of image c = stripped_class methods_of class_methods_kept image c

pub stripped_fields_of : (image : Image) (c : ℕ) → fields_of (slice_get (stripped image).classes c) ≡ fields_of (slice_get image.classes c)
stripped_fields_of image c = stripped_class fields_of class_fields_kept image c

pub stripped_interfaces : (image : Image) (c : ℕ) → interfaces_at (stripped image) c ≡ interfaces_at image c
stripped_interfaces image c = stripped_class interfaces_of interfaces_kept image c

pub stripped_name_at : (image : Image) (c : ℕ) → name_at (stripped image) c ≡ name_at image c
stripped_name_at image c = stripped_class declared_name name_kept image c

pub stripped_parent_at : (image : Image) (c : ℕ) → parent_at (stripped image) c ≡ parent_at image c
stripped_parent_at image c = stripped_class parent_of parent_kept image c

pub stripped_is_interface : (image : Image) (c : ℕ) → is_interface (stripped image) c ≡ is_interface image c
stripped_is_interface image c = ap (λ f. has_flag f flag.Interface) (stripped_flags image c)

pub stripped_is_abstract_class : (image : Image) (c : ℕ) → is_abstract_class (stripped image) c ≡ is_abstract_class image c
stripped_is_abstract_class image c = ap (λ f. has_flag f flag.Abstract) (stripped_flags image c)

-- ---- names

find_kept : (cs : List ClassInfo) (k : ℕ) (name : List ℕ) → find_from (map class_stripped cs) k name ≡ find_from cs k name
find_kept [] k name = refl
find_kept (c ∷ cs) k name = ap (λ rest. elim (bytes_eq c.def.name name) [ true ↦ Some k | false ↦ rest ]) (find_kept cs (suc k) name)

pub stripped_class_named : (image : Image) (name : List ℕ) → class_named (stripped image) name ≡ class_named image name
unfolding class_named
stripped_class_named image name = find_kept image.classes 0 name

-- ---- what stands above

pub stripped_length : (image : Image) → length (stripped image).classes ≡ length image.classes
stripped_length image = length-map image.classes class_stripped

pub stripped_walk : (image : Image) (n : ℕ) (c : Option ℕ) → walk (stripped image) n c ≡ walk image n c
stripped_walk image zero c = refl
stripped_walk image (suc n) None = refl
stripped_walk image (suc n) (Some c) =
    ap (λ o. c ∷ walk (stripped image) n o) (stripped_parent_at image c) ∙ ap (λ cs. c ∷ cs) (stripped_walk image n (parent_at image c))

pub stripped_supers : (image : Image) (c : ℕ) → supers (stripped image) c ≡ supers image c
stripped_supers image c =
    ap (λ n. walk (stripped image) n (Some c)) (stripped_length image) ∙ stripped_walk image (length image.classes) (Some c)

pub stripped_above : (image : Image) (c : ℕ) → above (stripped image) c ≡ above image c
stripped_above image c =
    ap (λ p. with_parent p (interfaces_at (stripped image) c)) (stripped_parent_at image c) ∙
    ap (with_parent (parent_at image c)) (stripped_interfaces image c)

abbrev or_else : Bool → Bool → Bool
or_else b c = elim b [ true ↦ true | false ↦ c ]

pub stripped_reaches : (image : Image) (n d c : ℕ) → reaches (stripped image) n d c ≡ reaches image n d c
stripped_reaches image zero d c = refl
stripped_reaches image (suc n) d c =
    ap (or_else (nat_eq c d))
    (ap (λ test. any_of test (above (stripped image) c)) (λ j e. stripped_reaches image n d e j) ∙
    ap (any_of (reaches image n d)) (stripped_above image c))

pub stripped_implements : (image : Image) (c d : ℕ) → implements (stripped image) c d ≡ implements image c d
stripped_implements image c d =
    ap (λ n. reaches (stripped image) (suc n) d c) (stripped_length image) ∙ stripped_reaches image (suc (length image.classes)) d c

-- ---- where members are looked for

pub stripped_interfaces_first : (image : Image) (c : ℕ) → interfaces_first (stripped image) c ≡ interfaces_first image c
stripped_interfaces_first image c =
    ap (λ cs. cs ++ option_to_list (parent_at (stripped image) c)) (stripped_interfaces image c) ∙
    ap (λ p. interfaces_at image c ++ option_to_list p) (stripped_parent_at image c)

pub stripped_field_classes : (image : Image) (c : ℕ) → field_classes (stripped image) c ≡ field_classes image c
stripped_field_classes image c =
    ap (λ up. upward up (length (stripped image).classes) c) (λ j d. stripped_interfaces_first image d j) ∙
    ap (λ n. upward (interfaces_first image) n c) (stripped_length image)

-- of some classes, by what stands above each
abbrev superinterfaces_by : (ℕ → List ℕ) → ℕ → List ℕ → List ℕ
superinterfaces_by up n cs = flat_map (λ s. flat_map (upward up n) (up s)) cs

pub stripped_superinterfaces : (image : Image) (c : ℕ) → superinterfaces (stripped image) c ≡ superinterfaces image c
stripped_superinterfaces image c =
    ap (λ up. superinterfaces_by up (length (stripped image).classes) (supers (stripped image) c)) (λ j d. stripped_interfaces image d j) ∙
    ap (λ n. superinterfaces_by (interfaces_at image) n (supers (stripped image) c)) (stripped_length image) ∙
    ap (superinterfaces_by (interfaces_at image) (length image.classes)) (stripped_supers image c)

pub stripped_method_classes : (image : Image) (c : ℕ) → method_classes (stripped image) c ≡ method_classes image c
stripped_method_classes image c =
    ap (λ cs. cs ++ superinterfaces (stripped image) c) (stripped_supers image c) ∙
    ap (λ cs. supers image c ++ cs) (stripped_superinterfaces image c)
