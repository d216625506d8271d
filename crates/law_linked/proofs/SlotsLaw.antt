-- In a linked image a field keeps its cells in each class below the one that declares it.
use Rattle.std.proofs.Common.{◌≡◌, ◌+◌, ◌<◌, ℕ, zero, suc, Bool, true, false, not, ◌&&◌, ◌||◌, List, [], ◌∷◌, ◌++◌, length, map, ◌⊎◌, inl, inr, Option, Some, None, refl, sym, ap, subst, ◌∙◌, arith}
use Rattle.std.specs.Prelude.{slice_get, nat_eq, flat_map, option_map}
use Rattle.std.specs.List.{enumerate_from}
use Rattle.dv_defs.specs.declared.names.FieldId.{FieldId}
use Rattle.dv_defs.specs.declared.image.ClassInfo.{ClassInfo}
use Rattle.dv_defs.specs.declared.image.FieldInfo.{FieldInfo}
use Rattle.dv_defs.specs.Images.{Image}
use Rattle.dv_defs.specs.Names.{object_name}
use Rattle.dv_defs.specs.Types.{words_of, of_class}
use Rattle.dv_defs.specs.declared.names.Ty.{Ty}
use Rattle.dv_defs.specs.declared.names.Base.TheVariants as base_kind
use Rattle.dv_defs.specs.declared.class.FieldDef.{FieldDef}
use Rattle.law_types.proofs.Types.{AreUnder, IsUnder, type_is, flat_under}
use Rattle.dv_defs.specs.Pools.{Field, field_at, name_at, class_type, class_named, supers, walk, parent_at, is_interface, is_static_field, declared_name, fields_of, with_field, with_field_info}
use Rattle.dv_defs.specs.Order.{has_number, instance, implements, extends}
use Rattle.dv_typing.specs.RegTypes.{reg_types, type_at}
use Rattle.dv_machine.specs.Heap.{type_of_field, slot_types, slots_of, class_cells}
use Rattle.dv_defs.specs.Linked.{IsImage, slotted, tabled, resolved, class_with_slots, class_with_table, field_with_slot, has_cells, cells_along, cells_of_class, slots_at, slot_at, slot_of, words_before}
use Rattle.dv_defs.specs.LookUp.{superinterfaces, interfaces_above, interfaces_at, upward}
use Rattle.law_linking.specs.Stripped.{field_stripped}
use Rattle.law_linking.specs.Ordered.{IsOrdered}
use Rattle.dv_defs.specs.declared.flags.Flag.TheVariants as flag
use Rattle.dv_defs.specs.Flags.{has_flag}
use Rattle.law_linking.proofs.AlikeMembers.{stripped_field_at}
use Rattle.law_linking.proofs.AlikeImages.{AreAlike, alike_length, alike_by_field, alike_field_at, alike_is_interface, alike_supers}
use Rattle.law_linking.proofs.OrderedImages.{own_numbered, image_is, image_alike, image_fields, image_ordered, ordered_alike}
use Rattle.law_linking.proofs.ReachPlaces.{place_bounded}
use Rattle.law_linking.proofs.Upward.{walk_same, flat_gives}
use Rattle.law_linking.proofs.Implemented.{implements_is}
use Rattle.dv_machine.specs.Accepted.{KeepsSlots}
use Rattle.law_linked.proofs.BootRows.{field_in, named_own}
use Rattle.law_linked.proofs.SlotCells.{has_field, cells_at_front, has_own, has_later, along_front, walk_from}

-- ---- what linking puts into classes and fields

slots_placed : (with_table : Image) (base : Image) (is : List ClassInfo) (a c : ℕ) (info : ClassInfo)
    → slice_get (map (class_with_table with_table) (enumerate_from a (map (class_with_slots base) (enumerate_from a is)))) c ≡ Some info → info.slots ≡ slots_at base (a + c)
slots_placed with_table base [] a c info at = absurd (cc)
slots_placed with_table base (i ∷ is) a zero info at =
    let z : a + 0 ≡ a = omega arith in
    let same : class_with_table with_table (a, class_with_slots base (a, i)) ≡ info = cc in
    sym (ap (λ (x : ClassInfo). x.slots) same) ∙ ap (slots_at base) (sym z)
slots_placed with_table base (i ∷ is) a (suc c) info at =
    let e : (a + 1) + c ≡ a + suc c = omega arith in
    slots_placed with_table base is (a + 1) c info at ∙ ap (slots_at base) e

slot_placed : (base : Image) (is : List FieldInfo) (a x : ℕ) (info : FieldInfo) → slice_get (map (field_with_slot base) (enumerate_from a is)) x ≡ Some info → info.slot ≡ slot_at base (a + x)
slot_placed base [] a x info at = absurd (cc)
slot_placed base (i ∷ is) a zero info at =
    let z : a + 0 ≡ a = omega arith in
    let same : field_with_slot base (a, i) ≡ info = cc in
    sym (ap (λ (y : FieldInfo). y.slot) same) ∙ ap (slot_at base) (sym z)
slot_placed base (i ∷ is) a (suc x) info at =
    let e : (a + 1) + x ≡ a + suc x = omega arith in
    slot_placed base is (a + 1) x info at ∙ ap (slot_at base) e

classes_made : (base : Image) → (resolved (tabled (slotted base))).classes ≡ map (class_with_table (slotted base)) (enumerate_from 0 (map (class_with_slots base) (enumerate_from 0 base.classes)))
unfolding resolved tabled slotted
classes_made base = refl

-- ---- interfaces above interfaces

upward_interface : (image : Image) → IsOrdered image → (n e d : ℕ) → is_interface image e ≡ true → has_number d (upward (interfaces_at image) n e) ≡ true → is_interface image d ≡ true
upward_interface image o zero e d is has = absurd (cc)
upward_interface image o (suc n) e d is has = by (nat_eq e d) refl has (upward_interface image o n)
  where
    equal : nat_eq e d ≡ true → e ≡ d
    equal h = grind (arith)

    by : (b : Bool) → nat_eq e d ≡ b → elim b as (λ _. Bool) [ true ↦ true | false ↦ has_number d (flat_map (upward (interfaces_at image) n) (interfaces_at image e)) ] ≡ true
        → ((e d : ℕ) → is_interface image e ≡ true → has_number d (upward (interfaces_at image) n e) ≡ true → is_interface image d ≡ true) → is_interface image d ≡ true
    by true h has rest = subst (λ x. is_interface image x ≡ true) (equal h) is
    by false h has rest = flat_gives (upward (interfaces_at image) n) d (interfaces_at image e) (λ i there up. rest i d (o.interfaces e i there) up) has

superinterface : (image : Image) → IsOrdered image → (c d : ℕ) → has_number d (superinterfaces image c) ≡ true → is_interface image d ≡ true
superinterface image o c d has =
    flat_gives (interfaces_above image) d (supers image c)
    (λ s there above. flat_gives (upward (interfaces_at image) (length image.classes)) d (interfaces_at image s)
    (λ i named up. upward_interface image o (length image.classes) i d (o.interfaces s i named) up) above) has

-- ---- classes

walk_itself : (image : Image) (n c : ℕ) → 0 < n → has_number c (walk image n (Some c)) ≡ true
walk_itself image zero c some = absurd (omega arith)
walk_itself image (suc n) c some = let e : nat_eq c c ≡ true = grind (arith) in ap (λ (b : Bool). elim b as (λ _. Bool) [ true ↦ true | false ↦ has_number c (walk image n (parent_at image c)) ]) e

walk_starts : (image : Image) (n c : ℕ) → 0 < n → (rest : List ℕ) × (walk image n (Some c) ≡ c ∷ rest)
walk_starts image zero c some = absurd (omega arith)
walk_starts image (suc n) c some = (walk image n (parent_at image c), refl)

class_of_number : (cs : List ClassInfo) (c : ℕ) → c < length cs → (info : ClassInfo) × (slice_get cs c ≡ Some info)
class_of_number [] c within = absurd (omega arith)
class_of_number (x ∷ cs) zero within = (x, refl)
class_of_number (x ∷ cs) (suc c) within = class_of_number cs c (omega arith)

within_at : {X : Type 0} (xs : List X) (i : ℕ) (x : X) → slice_get xs i ≡ Some x → i < length xs
within_at [] i x at = absurd (cc)
within_at (y ∷ xs) zero x at = omega arith
within_at (y ∷ xs) (suc i) x at = let h : i < length xs = within_at xs i x at in omega arith

field_there : (image : Image) (x : ℕ) (f : Field) → field_at image x ≡ Some f → (x < length image.fields) × (f.id ≡ x)
unfolding field_at
field_there image x f at = by (slice_get image.fields x) refl at
  where
    made : (info : FieldInfo) (o : Option FieldDef) → with_field x info o ≡ Some f → f.id ≡ x
    made info None h = absurd (cc)
    made info (Some def) h = let same : record { id = x; info = info; def = def } ≡ f = cc in sym (ap (λ (y : Field). y.id) same)

    by : (o : Option FieldInfo) → slice_get image.fields x ≡ o → with_field_info image x o ≡ Some f → (x < length image.fields) × (f.id ≡ x)
    by None e h = absurd (cc)
    by (Some info) e h = (within_at image.fields x info e, made info (slice_get (fields_of (slice_get image.classes info.class.0)) info.place) h)

name_there : (image : Image) (i : ℕ) (c : ClassInfo) → slice_get image.classes i ≡ Some c → name_at image i ≡ c.def.name
name_there image i c at = ap declared_name at

module _ (image : Image) (is : IsImage image) where
  base : Image
  base = own_numbered image

  alike : AreAlike image base
  unfolding base
  alike = image_alike image is

  fields_of_base : image.fields ≡ map (field_with_slot base) (enumerate_from 0 base.fields)
  unfolding base
  fields_of_base = image_fields image is

  classes_of_base : image.classes ≡ map (class_with_table (slotted base)) (enumerate_from 0 (map (class_with_slots base) (enumerate_from 0 base.classes)))
  unfolding base
  classes_of_base = sym (ap (λ (made : Image). made.classes) (image_is image is)) ∙ classes_made (own_numbered image)

  ordered : IsOrdered image
  ordered = image_ordered image is

  -- a number is that of its name
  number_of : (c : ℕ) → c < length image.classes → class_named image (name_at image c) ≡ Some c
  number_of c within =
      let there = class_of_number image.classes c within in
      ap (class_named image) (name_there image c there.0 there.1) ∙ named_own image is c there.0 there.1

  -- Object declares no field
  no_object : (x : ℕ) (f : Field) → field_at image x ≡ Some f → name_at image f.info.class.0 ≡ object_name → {X : Type 0} → X
  no_object x f at top =
      let stands = field_in image x f at in
      let d = f.info.class.0 in
      let own : class_named image object_name ≡ Some d = ap (class_named image) (sym top) ∙ number_of d (within_at image.classes d stands.class stands.class_at) in
      let both : Some d ≡ Some ordered.object = sym own ∙ ordered.object_named in
      let same : d ≡ ordered.object = cc in
      let none : stands.class.def.fields ≡ [] = sym (ap fields_of (sym (ap (slice_get image.classes) same) ∙ stands.class_at)) ∙ ordered.object_fields in
      absurd (let h : slice_get [] f.info.place ≡ Some f.def = ap (λ (fs : List FieldDef). slice_get fs f.info.place) (sym none) ∙ stands.there in cc)

  -- a class that is an instance of a field's class is under it by superclasses
  is_below : (c x : ℕ) (f : Field) → field_at image x ≡ Some f → is_interface image f.info.class.0 ≡ false → c < length image.classes
      → instance image (class_type image c) (class_type image f.info.class.0) ≡ true → extends image c f.info.class.0 ≡ true
  unfolding instance
  is_below c x f at concrete within below = go (type_is image (implements image) (class_type image c) (class_type image f.info.class.0) below)
    where
      d : ℕ
      d = f.info.class.0

      inside : d < length image.classes
      inside = let stands = field_in image x f at in within_at image.classes f.info.class.0 stands.class stands.class_at

      of_class_name : (m n : List ℕ) → of_class m ≡ of_class n → m ≡ n
      of_class_name m n same = let b : base_kind.Class m ≡ base_kind.Class n = ap (λ (t : Ty). t.base) same in cc

      implemented : implements image c d ≡ true → extends image c d ≡ true
      implemented h = by (extends image c d) refl (sym (implements_is image ordered c d within) ∙ h)
        where
          by : (b : Bool) → extends image c d ≡ b → (b || has_number d (superinterfaces image c)) ≡ true → b ≡ true
          by true e h = refl
          by false e h = absurd (let i : is_interface image d ≡ true = superinterface image ordered c d h in let j : is_interface image d ≡ false = concrete in cc)

      go : (class_type image c ≡ class_type image d) ⊎ IsUnder image (implements image) (class_type image c) (class_type image d) → extends image c d ≡ true
      go (inl same) =
          let names : name_at image c ≡ name_at image d = of_class_name (name_at image c) (name_at image d) same in
          let both : Some c ≡ Some d = sym (number_of c within) ∙ (ap (class_named image) names ∙ number_of d inside) in
          let equal : c ≡ d = cc in
          subst (λ e. has_number e (supers image c) ≡ true) equal (walk_itself image (length image.classes) c (omega (arith, within)))
      go (inr u) = flat (flat_under image (implements image) u.more (base_kind.Class (name_at image c)) u.name (omega (arith, u.dims)) u.tested)
        where
          own : name_at image d ≡ u.name
          own = let b : base_kind.Class (name_at image d) ≡ base_kind.Class u.name = u.is_class in cc

          flat : (u.name ≡ object_name) ⊎ AreUnder image (implements image) (base_kind.Class (name_at image c)) u.name → extends image c d ≡ true
          flat (inl top) = no_object x f at (own ∙ top)
          flat (inr a) =
              let named : name_at image c ≡ a.name = (let b : base_kind.Class (name_at image c) ≡ base_kind.Class a.name = a.is_class in cc) in
              let lows : Some a.low ≡ Some c = sym a.has_low ∙ (ap (class_named image) (sym named) ∙ number_of c within) in
              let highs : Some a.high ≡ Some d = sym a.has_high ∙ (ap (class_named image) (sym own) ∙ number_of d inside) in
              let low : a.low ≡ c = cc in
              let high : a.high ≡ d = cc in
              implemented ((λ j. implements image (sym low j) (sym high j)) ∙ a.tested)

  -- ---- what a field and a class have

  -- the field as it is numbered, before it has a slot
  record IsBase (x : ℕ) (f g : Field) : Type 0 where
    there : field_at base x ≡ Some g
    def : g.def ≡ f.def
    class : g.info.class.0 ≡ f.info.class.0

  base_field : (x : ℕ) (f : Field) → field_at image x ≡ Some f → (g : Field) × IsBase x f g
  base_field x f at = by (field_at base x) refl (sym (ap (option_map field_stripped) at) ∙ alike_field_at image base alike x)
    where
      by : (o : Option Field) → field_at base x ≡ o → option_map field_stripped (Some f) ≡ option_map field_stripped o → (g : Field) × IsBase x f g
      by None e h = absurd (cc)
      by (Some g) e h =
          let same : field_stripped f ≡ field_stripped g = cc in
          (g, record { there = e; def = sym (ap (λ (y : Field). y.def) same); class = sym (ap (λ (y : Field). y.info.class.0) same) })

  slot_is : (x : ℕ) (f : Field) → field_at image x ≡ Some f → f.info.slot ≡ slot_at base x
  slot_is x f at =
      let stands = field_in image x f at in
      slot_placed base base.fields 0 x f.info (sym (ap (λ (fs : List FieldInfo). slice_get fs x) fields_of_base) ∙ stands.info_at) ∙
      (let z : 0 + x ≡ x = omega arith in ap (slot_at base) z)

  slots_are : (c : ℕ) (info : ClassInfo) → slice_get image.classes c ≡ Some info → info.slots ≡ slots_at base c
  slots_are c info at =
      slots_placed (slotted base) base base.classes 0 c info (sym (ap (λ (cs : List ClassInfo). slice_get cs c) classes_of_base) ∙ at) ∙
      (let z : 0 + c ≡ c = omega arith in ap (slots_at base) z)

  -- the types of cells are those of the numbered fields
  types_same : (xs : List FieldId) → slot_types image xs ≡ slot_types base xs
  types_same [] = refl
  types_same (y ∷ ys) = λ j. own j ++ types_same ys j
    where
      own : type_of_field (field_at image y.0) ≡ type_of_field (field_at base y.0)
      own = alike_by_field (λ i. field_at i y.0) (λ i. stripped_field_at i y.0) type_of_field kept image base alike
        where
          kept : (o : Option Field) → type_of_field (option_map field_stripped o) ≡ type_of_field o
          kept None = refl
          kept (Some f) = refl

  base_ordered : IsOrdered base
  base_ordered = ordered_alike image base alike ordered

  count : length image.classes ≡ length base.classes
  count = alike_length image base alike

  -- the walk up of a class goes on from each class in it
  walk_parts : (c d : ℕ) → c < length image.classes → d < length image.classes → extends image c d ≡ true → (front : List ℕ) × (supers base c ≡ front ++ supers base d)
  walk_parts c d within inside below =
      let few : c < length base.classes = omega (arith, within, count) in
      let also : d < length base.classes = omega (arith, inside, count) in
      let has : has_number d (supers base c) ≡ true = ap (has_number d) (sym (alike_supers image base alike c)) ∙ below in
      let parts = walk_from base base_ordered.range base_ordered.acyclic (length base.classes) c d (place_bounded base base_ordered.acyclic c few) has in
      (parts.0, parts.3 ∙ ap (λ ds. parts.0 ++ ds) (walk_same base base_ordered.range base_ordered.acyclic parts.1 (length base.classes) d parts.2 (place_bounded base base_ordered.acyclic d also)))

  -- a field stands among the cells of its class
  has_slot : (x : ℕ) (g : Field) → field_at base x ≡ Some g → has_cells base g ≡ true → g.info.class.0 < length base.classes → has_field x (slots_at base g.info.class.0) ≡ true
  has_slot x g at cells within =
      let own = field_there base x g at in
      let starts = walk_starts base (length base.classes) g.info.class.0 (omega (arith, within)) in
      ap (λ cs. has_field x (cells_along base cs)) starts.1 ∙
      has_later x (cells_along base starts.0) (cells_of_class base g.info.class.0) (has_own base x g at own.1 own.0 cells)

  at_front : (c x : ℕ) (f : Field) → field_at image x ≡ Some f → is_static_field f ≡ false → is_interface image f.info.class.0 ≡ false → c < length image.classes
      → instance image (class_type image c) (class_type image f.info.class.0) ≡ true → (j : ℕ) → j < words_of f.def.ty
      → type_at (class_cells image c) (f.info.slot + j) ≡ type_at (reg_types f.def.ty) j
  at_front c x f at instance_field concrete within below j less =
      let stands = field_in image x f at in
      let d = f.info.class.0 in
      let inside : d < length image.classes = within_at image.classes d stands.class stands.class_at in
      let g = base_field x f at in
      let own : g.0.info.class.0 ≡ d = g.1.class in
      let static : is_static_field g.0 ≡ false = ap (λ (m : FieldDef). has_flag m.flags flag.Static) g.1.def ∙ instance_field in
      let flat : is_interface base g.0.info.class.0 ≡ false = ap (is_interface base) own ∙ (sym (alike_is_interface image base alike d) ∙ concrete) in
      let cells : has_cells base g.0 ≡ true = (λ i. not (static i) && not (flat i)) in
      let slot : f.info.slot ≡ words_before base x (slots_at base d) =
      slot_is x f at ∙ (ap (λ (o : Option Field). elim o as (λ _. ℕ) [ None ↦ 0 | Some h ↦ slot_of base h ]) g.1.there ∙
      (ap (λ (b : Bool). elim b as (λ _. ℕ) [ true ↦ words_before base g.0.id (slots_at base g.0.info.class.0) | false ↦ 0 ]) cells ∙
      (λ i. words_before base ((field_there base x g.0 g.1.there).1 i) (slots_at base (own i))))) in
      let info = class_of_number image.classes c within in
      let parts = walk_parts c d within inside (is_below c x f at concrete within below) in
      let more = along_front base parts.0 (supers base d) in
      let slots : slots_of (slice_get image.classes c) ≡ slots_at base d ++ more.0 = ap slots_of info.1 ∙ (slots_are c info.0 info.1 ∙ (ap (cells_along base) parts.1 ∙ more.1)) in
      let types : class_cells image c ≡ slot_types base (slots_at base d ++ more.0) = ap (slot_types image) slots ∙ types_same (slots_at base d ++ more.0) in
      let has : has_field x (slots_at base d) ≡ true = subst (λ e. has_field x (slots_at base e) ≡ true) own (has_slot x g.0 g.1.there cells (omega (arith, own, inside, count))) in
      (λ i. type_at (types i) (slot i + j)) ∙
      (cells_at_front base x g.0 g.1.there (slots_at base d) more.0 has j (subst (λ (m : FieldDef). j < words_of m.ty) (sym g.1.def) less) ∙
      ap (λ (m : FieldDef). type_at (reg_types m.ty) j) g.1.def)

  pub image_slots : KeepsSlots image
  image_slots = record { at = at_front }
