-- In a linked image a class's objects have the cells of its superclasses at the places where those have them.
use Rattle.std.proofs.Common.{◌≡◌, ◌+◌, ◌<◌, ◌≤◌, ℕ, zero, suc, Bool, true, false, cond, ◌&&◌, List, [], ◌∷◌, ◌++◌, length, map, Option, Some, None, refl, sym, ap, subst, ◌∙◌, arith}
use Rattle.std.specs.Prelude.{nat_eq, slice_get, filter, filter_map, option_map}
use Rattle.std.specs.List.{enumerate_from, range_with_len, cons_option}
use Rattle.std.proofs.lemmas.Bool.{eqb-true, eq-eqb}
use Rattle.std.proofs.lemmas.Option.{slice_get_within}
use Rattle.dv_defs.specs.declared.names.Ty.{Ty}
use Rattle.dv_defs.specs.declared.names.FieldId.{FieldId}
use Rattle.dv_defs.specs.declared.image.ClassInfo.{ClassInfo}
use Rattle.dv_defs.specs.declared.image.FieldInfo.{FieldInfo}
use Rattle.dv_typing.specs.declared.typing.RegType.{RegType}
use Rattle.dv_typing.specs.declared.typing.RegType.TheVariants as ty
use Rattle.dv_defs.specs.Images.{Image}
use Rattle.dv_defs.specs.Types.{is_long, words_of}
use Rattle.dv_typing.specs.RegTypes.{type_at, reg_types, single_type}
use Rattle.dv_machine.specs.Heap.{class_cells, slot_types, slots_of, type_of_field}
use Rattle.dv_defs.specs.Pools.{Field, field_at, is_static_field, is_interface, parent_at, walk}
use Rattle.dv_defs.specs.Linked.{IsImage, defs, has_cells, cells_of_class, cells_along, slots_at, words_at, words_before, slot_of, slot_at, field_with_slot, class_with_slots, class_with_table, slotted, tabled, resolved}
use Rattle.law_linking.specs.Stripped.{AreInRange, field_stripped}
use Rattle.law_linking.specs.Ordered.{IsOrdered}
use Rattle.law_linking.proofs.AlikeImages.{alike_field_at, alike_is_interface, alike_length, alike_parent_at}
use Rattle.law_linking.proofs.OrderedImages.{own_numbered, image_is, image_alike, image_fields, image_phases}
use Rattle.law_linking.proofs.FromPhases.{phases_ordered}
use Rattle.law_linking.proofs.ReachPlaces.{place, IsAcyclic, place_bounded, place_rises}
use Rattle.law_linking.proofs.Upward.{walk_same, parent_is_above}
use Rattle.law_linked.proofs.BootRows.{field_in}

-- ---- cells in a list of fields

has_id : ℕ → List FieldId → Bool
has_id id [] = false
has_id id (x ∷ xs) = cond (nat_eq x.0 id) true (has_id id xs)

id_left : (id : ℕ) (xs ys : List FieldId) → has_id id xs ≡ true → has_id id (xs ++ ys) ≡ true
unfolding has_id
id_left id [] ys has = absurd (cc)
id_left id (x ∷ xs) ys has = by (nat_eq x.0 id) has (id_left id xs ys)
  where
    by : (b : Bool) → cond b true (has_id id xs) ≡ true → (has_id id xs ≡ true → has_id id (xs ++ ys) ≡ true) → cond b true (has_id id (xs ++ ys)) ≡ true
    by true h rest = refl
    by false h rest = rest h

id_right : (id : ℕ) (xs ys : List FieldId) → has_id id ys ≡ true → has_id id (xs ++ ys) ≡ true
unfolding has_id
id_right id [] ys has = has
id_right id (x ∷ xs) ys has = by (nat_eq x.0 id) (id_right id xs ys has)
  where
    by : (b : Bool) → has_id id (xs ++ ys) ≡ true → cond b true (has_id id (xs ++ ys)) ≡ true
    by true h = refl
    by false h = h

-- what stands behind a field doesn't move it
before_left : (image : Image) (id : ℕ) (xs ys : List FieldId) → has_id id xs ≡ true → words_before image id (xs ++ ys) ≡ words_before image id xs
unfolding has_id
before_left image id [] ys has = absurd (cc)
before_left image id (x ∷ xs) ys has = by (nat_eq x.0 id) has (before_left image id xs ys)
  where
    by : (b : Bool) → cond b true (has_id id xs) ≡ true → (has_id id xs ≡ true → words_before image id (xs ++ ys) ≡ words_before image id xs)
        → elim b as (λ _. ℕ) [ true ↦ 0 | false ↦ words_at image x.0 + words_before image id (xs ++ ys) ] ≡ elim b as (λ _. ℕ) [ true ↦ 0 | false ↦ words_at image x.0 + words_before image id xs ]
    by true h rest = refl
    by false h rest = ap (λ n. words_at image x.0 + n) (rest h)

first_type : (t : Ty) (ts : List RegType) → type_at (reg_types t ++ ts) 0 ≡ type_at (reg_types t) 0
first_type t ts = by (is_long t)
  where
    by : (b : Bool) → type_at (elim b as (λ _. List RegType) [ true ↦ ty.LongLo ∷ ty.LongHi ∷ [] | false ↦ single_type t ∷ [] ] ++ ts) 0 ≡ type_at (elim b as (λ _. List RegType) [ true ↦ ty.LongLo ∷ ty.LongHi ∷ [] | false ↦ single_type t ∷ [] ]) 0
    by true = refl
    by false = refl

past_type : (t : Ty) (ts : List RegType) (k : ℕ) → type_at (reg_types t ++ ts) (words_of t + k) ≡ type_at ts k
past_type t ts k = by (is_long t)
  where
    by : (b : Bool) → type_at (elim b as (λ _. List RegType) [ true ↦ ty.LongLo ∷ ty.LongHi ∷ [] | false ↦ single_type t ∷ [] ] ++ ts) (elim b as (λ _. ℕ) [ true ↦ 2 | false ↦ 1 ] + k) ≡ type_at ts k
    by true = let same : 2 + k ≡ suc (suc k) = omega arith in ap (type_at (ty.LongLo ∷ ty.LongHi ∷ ts)) same
    by false = let same : 1 + k ≡ suc k = omega arith in ap (type_at (single_type t ∷ ts)) same

past_field : (image : Image) (x : ℕ) (ts : List RegType) (k : ℕ) → type_at (type_of_field (field_at image x) ++ ts) (words_at image x + k) ≡ type_at ts k
past_field image x ts k = by (field_at image x)
  where
    by : (o : Option Field) → type_at (type_of_field o ++ ts) (elim o as (λ _. ℕ) [ None ↦ 0 | Some f ↦ words_of f.def.ty ] + k) ≡ type_at ts k
    by None = let same : 0 + k ≡ k = omega arith in ap (type_at ts) same
    by (Some f) = past_type f.def.ty ts k

-- at a field's place stands its type
cell_there : (image : Image) (id : ℕ) (f : Field) → field_at image id ≡ Some f → (xs : List FieldId) → has_id id xs ≡ true → type_at (slot_types image xs) (words_before image id xs) ≡ type_at (reg_types f.def.ty) 0
unfolding has_id
cell_there image id f at [] has = absurd (cc)
cell_there image id f at (x ∷ xs) has = by (nat_eq x.0 id) refl has (cell_there image id f at xs)
  where
    by : (b : Bool) → nat_eq x.0 id ≡ b → cond b true (has_id id xs) ≡ true
        → (has_id id xs ≡ true → type_at (slot_types image xs) (words_before image id xs) ≡ type_at (reg_types f.def.ty) 0)
        → type_at (type_of_field (field_at image x.0) ++ slot_types image xs) (elim b as (λ _. ℕ) [ true ↦ 0 | false ↦ words_at image x.0 + words_before image id xs ]) ≡ type_at (reg_types f.def.ty) 0
    by true e h rest =
        let same : x.0 ≡ id = eqb-true x.0 id e in
        ap (λ o. type_at (type_of_field o ++ slot_types image xs) 0) (ap (field_at image) same ∙ at) ∙ first_type f.def.ty (slot_types image xs)
    by false e h rest = past_field image x.0 (slot_types image xs) (words_before image id xs) ∙ rest h

-- ---- a class has the cells of its own fields

ids_of : List Field → List FieldId
ids_of fs = map (λ f. record { 0 = f.id }) fs

less_by : (a b : ℕ) → nat_eq a b ≡ false → a ≤ b → a + 1 ≤ b
less_by a b e low = grind (arith, e, low)

own_cell : (image : Image) (test : Field → Bool) (id : ℕ) (f : Field) → field_at image id ≡ Some f → f.id ≡ id → test f ≡ true → (n a : ℕ) → a ≤ id → id < a + n → has_id id (ids_of (filter test (filter_map (field_at image) (range_with_len a n)))) ≡ true
unfolding has_id ids_of
own_cell image test id f at its passes zero a low high = absurd (omega arith)
own_cell image test id f at its passes (suc n) a low high = by (nat_eq a id) refl (λ more. own_cell image test id f at its passes n (a + 1) more (omega (arith, high)))
  where
    rest : List Field
    rest = filter_map (field_at image) (range_with_len (a + 1) n)

    other : (o : Option Field) → has_id id (ids_of (filter test rest)) ≡ true → has_id id (ids_of (filter test (cons_option o rest))) ≡ true
    other None h = h
    other (Some g) h = kept (test g)
      where
        passed : (b : Bool) → cond b true (has_id id (ids_of (filter test rest))) ≡ true
        passed true = refl
        passed false = h

        kept : (b : Bool) → has_id id (ids_of (cond b (g ∷ filter test rest) (filter test rest))) ≡ true
        kept true = passed (nat_eq g.id id)
        kept false = h

    here : has_id id (ids_of (filter test (f ∷ rest))) ≡ true
    here =
        ap (λ b. has_id id (ids_of (cond b (f ∷ filter test rest) (filter test rest)))) passes ∙
        ap (λ b. cond b true (has_id id (ids_of (filter test rest)))) (eq-eqb f.id id its)

    by : (b : Bool) → nat_eq a id ≡ b → (a + 1 ≤ id → has_id id (ids_of (filter test rest)) ≡ true) → has_id id (ids_of (filter test (cons_option (field_at image a) rest))) ≡ true
    by true e later =
        let same : a ≡ id = eqb-true a id e in
        ap (λ o. has_id id (ids_of (filter test (cons_option o rest)))) (ap (field_at image) same ∙ at) ∙ here
    by false e later = other (field_at image a) (later (less_by a id e low))

-- a class's superclasses begin with it
walk_first : (image : Image) (n c : ℕ) → 0 < n → (cs : List ℕ) × (walk image n (Some c) ≡ c ∷ cs)
walk_first image zero c some = absurd (omega arith)
walk_first image (suc n) c some = (walk image n (parent_at image c), refl)

class_has : (image : Image) (id : ℕ) (f : Field) → field_at image id ≡ Some f → f.id ≡ id → has_cells image f ≡ true → id < length image.fields → f.info.class.0 < length image.classes → has_id id (slots_at image f.info.class.0) ≡ true
unfolding ids_of
class_has image id f at its has within class =
    let c : ℕ = f.info.class.0 in
    let first = walk_first image (length image.classes) c (omega (arith, class)) in
    let passes : (nat_eq c c && has_cells image f) ≡ true = ap (λ b. b && has_cells image f) (eq-eqb c c refl) ∙ has in
    let here : has_id id (cells_of_class image c) ≡ true =
    own_cell image (λ g. nat_eq g.info.class.0 c && has_cells image g) id f at its passes (length image.fields) 0 (omega arith) (omega (arith, within)) in
    ap (λ cs. has_id id (cells_along image cs)) first.1 ∙ id_right id (cells_along image first.0) (cells_of_class image c) here

-- ---- and those of its superclass before them

walk_up : (image : Image) → AreInRange image.classes → IsAcyclic image → (n m c p : ℕ) → parent_at image c ≡ Some p → place image c < n → place image p < m → walk image n (Some c) ≡ c ∷ walk image m (Some p)
walk_up image range acyclic zero m c p up low lower = absurd (omega arith)
walk_up image range acyclic (suc n) m c p up low lower =
    let less = place_rises image range acyclic c p (parent_is_above image c p up) in
    ap (λ o. c ∷ walk image n o) up ∙ ap (λ cs. c ∷ cs) (walk_same image range acyclic n m p (omega (arith, less, low)) lower)

slots_up : (image : Image) → IsOrdered image → (c p : ℕ) → c < length image.classes → parent_at image c ≡ Some p → slots_at image c ≡ slots_at image p ++ cells_of_class image c
slots_up image ordered c p within up =
    let low = place_bounded image ordered.acyclic c within in
    let less = place_rises image ordered.range ordered.acyclic c p (parent_is_above image c p up) in
    ap (cells_along image) (walk_up image ordered.range ordered.acyclic (length image.classes) (length image.classes) c p up low (omega (arith, less, low)))

-- a field stands among a class's cells so many words from the front
pub record Keeps (image : Image) (id words c : ℕ) : Type 0 where
  has : has_id id (slots_at image c) ≡ true
  before : words_before image id (slots_at image c) ≡ words

keeps_down : (image : Image) → IsOrdered image → (id words c p : ℕ) → c < length image.classes → parent_at image c ≡ Some p → Keeps image id words p → Keeps image id words c
keeps_down image ordered id words c p within up keeps =
    let slots = slots_up image ordered c p within up in
    record {
      has = ap (has_id id) slots ∙ id_left id (slots_at image p) (cells_of_class image c) keeps.has;
      before = ap (words_before image id) slots ∙ (before_left image id (slots_at image p) (cells_of_class image c) keeps.has ∙ keeps.before);
    }

-- ---- of a linked image

same_types : (a b : Image) → ((x : ℕ) → type_of_field (field_at a x) ≡ type_of_field (field_at b x)) → (xs : List FieldId) → slot_types a xs ≡ slot_types b xs
same_types a b same [] = refl
same_types a b same (x ∷ xs) = λ j. same x.0 j ++ same_types a b same xs j

type_stripped : (o : Option Field) → type_of_field (option_map field_stripped o) ≡ type_of_field o
type_stripped None = refl
type_stripped (Some f) = refl

classes_made : (base : Image) → (resolved (tabled (slotted base))).classes ≡ map (class_with_table (slotted base)) (enumerate_from 0 (map (class_with_slots base) (enumerate_from 0 base.classes)))
unfolding resolved tabled slotted
classes_made base = refl

tabled_slots : (before : Image) (cs : List ClassInfo) (a c : ℕ) (info : ClassInfo) → slice_get (map (class_with_table before) (enumerate_from a cs)) c ≡ Some info → (d : ClassInfo) × (slice_get cs c ≡ Some d) × (info.slots ≡ d.slots)
tabled_slots before [] a c info there = absurd (cc)
tabled_slots before (d ∷ cs) a zero info there =
    let same : class_with_table before (a, d) ≡ info = cc in (d, refl, ap (λ (i : ClassInfo). i.slots) (sym same))
tabled_slots before (d ∷ cs) a (suc c) info there = tabled_slots before cs (a + 1) c info there

slots_placed : (base : Image) (cs : List ClassInfo) (a c : ℕ) (info : ClassInfo) → slice_get (map (class_with_slots base) (enumerate_from a cs)) c ≡ Some info → info.slots ≡ slots_at base (a + c)
slots_placed base [] a c info there = absurd (cc)
slots_placed base (d ∷ cs) a zero info there =
    let z : a + 0 ≡ a = omega arith in
    let same : class_with_slots base (a, d) ≡ info = cc in
    rw z (ap (λ (i : ClassInfo). i.slots) (sym same))
slots_placed base (d ∷ cs) a (suc c) info there =
    let e : a + suc c ≡ (a + 1) + c = omega arith in
    rw e (slots_placed base cs (a + 1) c info there)

slot_placed : (base : Image) (fs : List FieldInfo) (a k : ℕ) (info : FieldInfo) → slice_get (map (field_with_slot base) (enumerate_from a fs)) k ≡ Some info → info.slot ≡ slot_at base (a + k)
slot_placed base [] a k info there = absurd (cc)
slot_placed base (f ∷ fs) a zero info there =
    let z : a + 0 ≡ a = omega arith in
    let same : field_with_slot base (a, f) ≡ info = cc in
    rw z (ap (λ (i : FieldInfo). i.slot) (sym same))
slot_placed base (f ∷ fs) a (suc k) info there =
    let e : a + suc k ≡ (a + 1) + k = omega arith in
    rw e (slot_placed base fs (a + 1) k info there)

module _ (image : Image) (is : IsImage image) where
  abbrev base : Image
  base = own_numbered image

  base_ordered : IsOrdered base
  base_ordered = phases_ordered (defs image.classes) image.boot (image_phases image is).0

  field_same : (x : ℕ) → type_of_field (field_at image x) ≡ type_of_field (field_at base x)
  field_same x = sym (type_stripped (field_at image x)) ∙ (ap type_of_field (alike_field_at image base (image_alike image is) x) ∙ type_stripped (field_at base x))

  image_slots : (c : ℕ) (info : ClassInfo) → slice_get image.classes c ≡ Some info → info.slots ≡ slots_at base c
  image_slots c info at =
      let made = sym (ap (λ (i : Image). i.classes) (image_is image is)) ∙ classes_made base in
      let under = tabled_slots (slotted base) (map (class_with_slots base) (enumerate_from 0 base.classes)) 0 c info (sym (ap (λ cs. slice_get cs c) made) ∙ at) in
      let z : 0 + c ≡ c = omega arith in
      under.2 ∙ rw z at (slots_placed base base.classes 0 c under.0 under.1)

  cells_are : (c : ℕ) (info : ClassInfo) → slice_get image.classes c ≡ Some info → class_cells image c ≡ slot_types base (slots_at base c)
  cells_are c info at =
      ap (λ o. slot_types image (slots_of o)) at ∙ (ap (slot_types image) (image_slots c info at) ∙ same_types image base field_same (slots_at base c))

  -- a class below has a field's cells where its own class has them
  pub kept_down : (id words c p : ℕ) → c < length image.classes → parent_at image c ≡ Some p → Keeps base id words p → Keeps base id words c
  kept_down id words c p within up keeps =
      keeps_down base base_ordered id words c p (subst (λ n. c < n) (alike_length image base (image_alike image is)) within)
      (sym (alike_parent_at image base (image_alike image is) c) ∙ up) keeps

  -- the numbered field
  base_field : (id : ℕ) (f : Field) → field_at image id ≡ Some f → (g : Field) × (field_at base id ≡ Some g) × (field_stripped f ≡ field_stripped g)
  base_field id f at =
      by (field_at base id) refl (sym (ap (option_map field_stripped) at) ∙ alike_field_at image base (image_alike image is) id)
    where
      by : (o : Option Field) → field_at base id ≡ o → Some (field_stripped f) ≡ option_map field_stripped o → (g : Field) × (field_at base id ≡ Some g) × (field_stripped f ≡ field_stripped g)
      by None e h = absurd (cc)
      by (Some g) e h = let same : field_stripped f ≡ field_stripped g = cc in (g, e, same)

  cells_there : (id : ℕ) (f : Field) → field_at image id ≡ Some f → is_static_field f ≡ false → is_interface image f.info.class.0 ≡ false → (g : Field) → field_at base id ≡ Some g → field_stripped f ≡ field_stripped g → has_cells base g ≡ true
  cells_there id f at instance_field class g there same =
      let static : is_static_field g ≡ false = sym (ap is_static_field same) ∙ instance_field in
      let of_class : is_interface base g.info.class.0 ≡ false =
      sym (ap (λ (h : Field). is_interface base h.info.class.0) same) ∙ (sym (alike_is_interface image base (image_alike image is) f.info.class.0) ∙ class) in
      rw (static, of_class) refl

  -- an instance field's cells stand in its own class
  pub kept_own : (id : ℕ) (f : Field) → field_at image id ≡ Some f → is_static_field f ≡ false → is_interface image f.info.class.0 ≡ false → Keeps base id f.info.slot f.info.class.0
  kept_own id f at instance_field class =
      let found = base_field id f at in
      let g : Field = found.0 in
      let cells : has_cells base g ≡ true = cells_there id f at instance_field class g found.1 found.2 in
      let own = field_in base id g found.1 in
      let same_class : f.info.class.0 ≡ g.info.class.0 = ap (λ (h : Field). h.info.class.0) found.2 in
      let has : has_id id (slots_at base g.info.class.0) ≡ true =
      class_has base id g found.1 own.id_is cells (slice_get_within base.fields id g.info own.info_at) (slice_get_within base.classes g.info.class.0 own.class own.class_at) in
      let z : 0 + id ≡ id = omega arith in
      let placed : f.info.slot ≡ slot_at base id =
      rw z at (slot_placed base base.fields 0 id f.info (sym (ap (λ fs. slice_get fs id) (image_fields image is)) ∙ (field_in image id f at).info_at)) in
      let slot : slot_at base id ≡ words_before base g.id (slots_at base g.info.class.0) =
      ap (λ (o : Option Field). elim o as (λ _. ℕ) [ None ↦ 0 | Some h ↦ slot_of base h ]) found.1 ∙
      ap (λ b. elim b as (λ _. ℕ) [ true ↦ words_before base g.id (slots_at base g.info.class.0) | false ↦ 0 ]) cells in
      record {
        has = ap (λ c. has_id id (slots_at base c)) same_class ∙ has;
        before =
            ap (λ c. words_before base id (slots_at base c)) same_class ∙
            sym (placed ∙ (slot ∙ ap (λ x. words_before base x (slots_at base g.info.class.0)) own.id_is));
      }

  -- what stands there in a class's objects
  pub kept_type : (id : ℕ) (f : Field) → field_at image id ≡ Some f → (c : ℕ) (info : ClassInfo) → slice_get image.classes c ≡ Some info → Keeps base id f.info.slot c → type_at (class_cells image c) f.info.slot ≡ type_at (reg_types f.def.ty) 0
  kept_type id f at c info class keeps =
      let found = base_field id f at in
      let of_type : found.0.def.ty ≡ f.def.ty = sym (ap (λ (h : Field). h.def.ty) found.2) in
      ap (λ ts. type_at ts f.info.slot) (cells_are c info class) ∙
      (ap (type_at (slot_types base (slots_at base c))) (sym keeps.before) ∙
      (cell_there base id found.0 found.1 (slots_at base c) keeps.has ∙ ap (λ t. type_at (reg_types t) 0) of_type))
