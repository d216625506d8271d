-- The fields that Throwable declares in a linked image, each found by its name.
use Rattle.std.proofs.Common.{◌≡◌, ◌+◌, ◌<◌, ℕ, zero, suc, Bool, true, false, List, [], ◌∷◌, length, Option, Some, None, refl, sym, ap, subst, ◌∙◌, arith}
use Rattle.std.specs.Prelude.{bytes_eq, nat_eq, slice_get, codes, option_map, unwrap_or}
use Rattle.std.specs.List.{list_all}
use Rattle.std.proofs.lemmas.Bool.{and_parts, and_from, not-true, eqb-true, eq-eqb}
use Rattle.std.proofs.lemmas.Slice.Eq.{bytes_eq-Decides}
use Rattle.std.proofs.lemmas.Option.{slice_get_within}
use Rattle.dv_defs.specs.declared.class.FieldDef.{FieldDef}
use Rattle.dv_defs.specs.declared.image.ClassInfo.{ClassInfo}
use Rattle.dv_defs.specs.declared.image.FieldInfo.{FieldInfo}
use Rattle.dv_defs.specs.declared.flags.Flag.{Flag}
use Rattle.dv_defs.specs.declared.flags.Flag.TheVariants as flag
use Rattle.dv_defs.specs.Flags.{has_flag}
use Rattle.dv_defs.specs.Images.{Image}
use Rattle.dv_defs.specs.Names.{object_name, string_name, throwable_name}
use Rattle.dv_defs.specs.Pools.{Field, field_at, flags_of, is_interface}
use Rattle.dv_defs.specs.Boot.{Row, word, flags_are, field_rows, field_is, fields_are, tells_flag, both_or_none}
use Rattle.dv_defs.specs.Numbering.{class_numbered, declared, numbered}
use Rattle.dv_defs.specs.Linked.{IsImage, defs}
use Rattle.dv_machine.specs.Unwinding.{number_named, is_named_field, slot_among, throwable_slot}
use Rattle.law_linking.specs.Stripped.{field_stripped}
use Rattle.law_linking.proofs.Members.{numbered_fields, first_field, field_of, field_numbered}
use Rattle.law_linking.proofs.AlikeImages.{alike_field_at}
use Rattle.law_linking.proofs.FromFaults.{numbered_at}
use Rattle.law_linking.proofs.OrderedImages.{image_alike}
use Rattle.law_linked.proofs.BootRows.{HasRow, row_there, field_row, FieldIn, field_in, def_of}
use Rattle.law_linked.proofs.BootParts.{field_parts}

-- ---- the first field of a name

-- a field of a class and a name, that a cell is of
pub record Picked (image : Image) (c : ℕ) (name : List ℕ) (cell : ℕ) : Type 0 where
  pub field : Field
  pub id : ℕ
  pub at : field_at image id ≡ Some field
  pub class : field.info.class.0 ≡ c
  pub named : field.def.name ≡ name
  pub cell_is : cell ≡ field.info.slot

-- a number that a test picks is a field's
there_by : (image : Image) (c : ℕ) (name : List ℕ) (n : ℕ) (o : Option Field) → field_at image n ≡ o → is_named_field c name o ≡ true → (f : Field) × (field_at image n ≡ Some f) × (is_named_field c name (Some f) ≡ true)
there_by image c name n None e h = absurd (cc)
there_by image c name n (Some f) e h = (f, e, h)

picked_at : (image : Image) (c : ℕ) (name : List ℕ) (x : ℕ) (i : FieldInfo) → slice_get image.fields x ≡ Some i → is_named_field c name (field_at image x) ≡ true → Picked image c name i.slot
picked_at image c name x i at h =
    let there = there_by image c name x (field_at image x) refl h in
    let own = field_in image x there.0 there.1 in
    let both : Some i ≡ Some there.0.info = sym at ∙ own.info_at in
    let same : i ≡ there.0.info = cc in
    let parts = and_parts (nat_eq there.0.info.class.0 c) (bytes_eq there.0.def.name name) there.2 in
    record {
      field = there.0;
      id = x;
      at = there.1;
      class = eqb-true there.0.info.class.0 c parts.0;
      named = (bytes_eq-Decides there.0.def.name name).0 parts.1;
      cell_is = ap (λ (j : FieldInfo). j.slot) same;
    }

slot_picked : (image : Image) (c : ℕ) (name : List ℕ) (is : List FieldInfo) (x : ℕ) → ((k : ℕ) → slice_get image.fields (x + k) ≡ slice_get is k) → (n : ℕ) → n < length is → is_named_field c name (field_at image (x + n)) ≡ true → Picked image c name (slot_among image c name is x)
slot_picked image c name [] x at n within h = absurd (omega arith)
slot_picked image c name (i ∷ is) x at n within h =
    by (is_named_field c name (field_at image x)) refl
    (λ m inside told. slot_picked image c name is (suc x) (λ k. let same : suc x + k ≡ x + suc k = omega arith in ap (slice_get image.fields) same ∙ at (suc k)) m inside told)
  where
    here : slice_get image.fields x ≡ Some i
    here = let same : x + 0 ≡ x = omega arith in ap (slice_get image.fields) (sym same) ∙ at 0

    later : (m : ℕ) → m < suc (length is) → is_named_field c name (field_at image (x + m)) ≡ true → is_named_field c name (field_at image x) ≡ false
        → ((l : ℕ) → l < length is → is_named_field c name (field_at image (suc x + l)) ≡ true → Picked image c name (slot_among image c name is (suc x)))
        → Picked image c name (slot_among image c name is (suc x))
    later zero inside told e rest =
        let same : x + 0 ≡ x = omega arith in
        absurd (let both : false ≡ true = sym e ∙ (ap (λ k. is_named_field c name (field_at image k)) (sym same) ∙ told) in cc)
    later (suc l) inside told e rest =
        let same : suc x + l ≡ x + suc l = omega arith in
        rest l (omega (arith, inside)) (ap (λ k. is_named_field c name (field_at image k)) same ∙ told)

    by : (b : Bool) → is_named_field c name (field_at image x) ≡ b
        → ((l : ℕ) → l < length is → is_named_field c name (field_at image (suc x + l)) ≡ true → Picked image c name (slot_among image c name is (suc x)))
        → Picked image c name (elim b [ true ↦ i.slot | false ↦ slot_among image c name is (suc x) ])
    by true e rest = picked_at image c name x i here e
    by false e rest = later n within h e rest

-- ---- the fields of Throwable

unfoldable pub message_row : Row
message_row = throwable_name ∷ codes "-" ∷ codes "message" ∷ string_name ∷ []

unfoldable pub cause_row : Row
cause_row = throwable_name ∷ codes "-" ∷ codes "cause" ∷ throwable_name ∷ []

throwable_fields : field_rows throwable_name ≡ message_row ∷ cause_row ∷ []
unfolding message_row cause_row
throwable_fields = refl

-- the field of a row
field_there : (rows : List Row) (fs : List FieldDef) (k : ℕ) (row : Row) → fields_are rows fs ≡ true → slice_get rows k ≡ Some row → (f : FieldDef) × (slice_get fs k ≡ Some f) × (field_is row f ≡ true)
field_there [] fs k row are at = absurd (cc)
field_there (r ∷ rows) [] k row are at = absurd (cc)
field_there (r ∷ rows) (f ∷ fs) zero row are at =
    let same : r ≡ row = cc in (f, refl, subst (λ x. field_is x f ≡ true) same (and_parts (field_is r f) (fields_are rows fs) are).0)
field_there (r ∷ rows) (f ∷ fs) (suc k) row are at = field_there rows fs k row (and_parts (field_is r f) (fields_are rows fs) are).1 at

-- no flag is told
pub plain : (flags : ℕ) → flags_are (codes "-") flags ≡ true → (has_flag flags flag.Static ≡ false) × (has_flag flags flag.Interface ≡ false)
plain flags are =
    let test : Flag → Bool = λ f. both_or_none (tells_flag (codes "-") f) (has_flag flags f) in
    let static = and_parts (test flag.Static) (list_all test (flag.Final ∷ flag.Private ∷ flag.Native ∷ flag.Interface ∷ flag.Abstract ∷ flag.Volatile ∷ [])) are in
    let final = and_parts (test flag.Final) (list_all test (flag.Private ∷ flag.Native ∷ flag.Interface ∷ flag.Abstract ∷ flag.Volatile ∷ [])) static.1 in
    let private = and_parts (test flag.Private) (list_all test (flag.Native ∷ flag.Interface ∷ flag.Abstract ∷ flag.Volatile ∷ [])) final.1 in
    let native = and_parts (test flag.Native) (list_all test (flag.Interface ∷ flag.Abstract ∷ flag.Volatile ∷ [])) private.1 in
    let interface = and_parts (test flag.Interface) (list_all test (flag.Abstract ∷ flag.Volatile ∷ [])) native.1 in
    (not-true (has_flag flags flag.Static) static.0, not-true (has_flag flags flag.Interface) interface.0)

named_stripped : (c : ℕ) (name : List ℕ) (o : Option Field) → is_named_field c name (option_map field_stripped o) ≡ is_named_field c name o
named_stripped c name None = refl
named_stripped c name (Some f) = refl

-- the rows of both
abbrev pub both_rows : List Row
both_rows = message_row ∷ cause_row ∷ []

module _ (image : Image) (is : IsImage image) where
  pub throwable : HasRow image (throwable_name ∷ codes "-" ∷ object_name ∷ [])
  throwable = row_there image is 10 (throwable_name ∷ codes "-" ∷ object_name ∷ []) refl

  pub throwable_is_class : is_interface image throwable.number ≡ false
  throwable_is_class = ap (λ c. has_flag (flags_of c) flag.Interface) throwable.at ∙ (plain throwable.class.def.flags throwable.as_row.flags).1

  abbrev own : Image
  own = numbered (defs image.classes) image.boot

  two_fields : fields_are both_rows throwable.class.def.fields ≡ true
  two_fields = subst (λ rows. fields_are rows throwable.class.def.fields ≡ true) throwable_fields throwable.as_row.fields

  number_is : number_named image throwable_name ≡ throwable.number
  number_is = ap (λ o. unwrap_or o 0) throwable.named

  -- the field of a row whose name no other row has
  module _ (n : ℕ) (row : Row) (there : slice_get both_rows n ≡ Some row) (alone : (k : ℕ) (r : Row) → slice_get both_rows k ≡ Some r → bytes_eq (word r 2) (word row 2) ≡ true → r ≡ row) where
    abbrev name : List ℕ
    name = word row 2

    -- its number
    abbrev place : ℕ
    place = first_field own.classes throwable.number + n

    named_there : is_named_field throwable.number name (field_at image place) ≡ true
    named_there =
        let found = field_there both_rows throwable.class.def.fields n row two_fields there in
        let told : bytes_eq name found.0.name ≡ true = (field_parts row found.0 found.2).1 in
        let same : name ≡ found.0.name = (bytes_eq-Decides name found.0.name).0 told in
        let class_at : slice_get own.classes throwable.number ≡ Some (class_numbered (declared (defs image.classes) image.boot) throwable.class.def) =
        numbered_at (defs image.classes) image.boot throwable.number ∙
        ap (option_map (class_numbered (declared (defs image.classes) image.boot))) (def_of image.classes throwable.number throwable.class throwable.at) in
        let known : field_at own place ≡ Some (field_of throwable.number n place found.0) =
        field_numbered own (numbered_fields (defs image.classes) image.boot) throwable.number n (class_numbered (declared (defs image.classes) image.boot) throwable.class.def) found.0 class_at found.1 in
        sym (named_stripped throwable.number name (field_at image place)) ∙
        ap (is_named_field throwable.number name) (alike_field_at image own (image_alike image is) place ∙ ap (option_map field_stripped) known) ∙
        and_from (nat_eq throwable.number throwable.number) (bytes_eq found.0.name name) (eq-eqb throwable.number throwable.number refl)
        ((bytes_eq-Decides found.0.name name).1 (sym same))

    pub picked : Picked image throwable.number name (throwable_slot image name)
    picked =
        let found = there_by image throwable.number name place (field_at image place) refl named_there in
        let within : place < length image.fields = slice_get_within image.fields place found.0.info (field_in image place found.0 found.1).info_at in
        subst (λ c. Picked image throwable.number name (slot_among image c name image.fields 0)) (sym number_is)
        (slot_picked image throwable.number name image.fields 0 (λ k. let same : 0 + k ≡ k = omega arith in ap (slice_get image.fields) same) place within
        (let same : place ≡ 0 + place = omega arith in ap (λ k. is_named_field throwable.number name (field_at image k)) (sym same) ∙ named_there))

    its_row : (k : ℕ) (r : Row) (f : FieldDef) → slice_get both_rows k ≡ Some r → field_is r f ≡ true → f.name ≡ name → field_is row f ≡ true
    its_row k r f at told named =
        let same : bytes_eq (word r 2) name ≡ true = subst (λ x. bytes_eq (word r 2) x ≡ true) named (field_parts r f told).1 in
        subst (λ x. field_is x f ≡ true) (alone k r at same) told

    by_row : (f : Field) (inside : FieldIn image picked.id f) → f.info.class.0 ≡ throwable.number → f.def.name ≡ name → field_is row f.def ≡ true
    by_row f inside class named =
        let both : Some inside.class ≡ Some throwable.class = sym inside.class_at ∙ (ap (slice_get image.classes) class ∙ throwable.at) in
        let same : inside.class ≡ throwable.class = cc in
        let stands : slice_get throwable.class.def.fields f.info.place ≡ Some f.def = subst (λ (c : ClassInfo). slice_get c.def.fields f.info.place ≡ Some f.def) same inside.there in
        let found = field_row both_rows throwable.class.def.fields f.info.place f.def two_fields stands in
        its_row f.info.place found.0 f.def found.1 found.2 named

    pub picked_row : field_is row picked.field.def ≡ true
    picked_row = by_row picked.field (field_in image picked.id picked.field picked.at) picked.class picked.named

    pub picked_concrete : is_interface image picked.field.info.class.0 ≡ false
    picked_concrete = ap (is_interface image) picked.class ∙ throwable_is_class
