-- The numbers of an image's fields: class by class, and in each by place.
use Rattle.std.specs.Prelude.{ℕ, zero, suc, ◌≡◌, ◌<◌, ◌≤◌, ◌+◌, ◌-◌, Bool, true, false, ◌&&◌, List, [], ◌∷◌, length, map, take, filter, filter_map, sum_by, cond, Option, Some, None, slice_get, nat_eq, option_map}
use Rattle.std.specs.List.{range_with_len, cons_option}
use Rattle.std.proofs.Common.{refl, sym, ap, ◌∙◌, ⊎_elim, arith}
use Rattle.std.proofs.lemmas.List.Sums.{sum_by-cons}
use Rattle.std.proofs.lemmas.Option.{slice_get-map, slice_get_within}
use Rattle.std.proofs.lemmas.List.{length-map}
use Rattle.dv_defs.specs.declared.names.Ty.{Ty}
use Rattle.dv_defs.specs.declared.class.FieldDef.{FieldDef}
use Rattle.dv_defs.specs.declared.image.ClassInfo.{ClassInfo}
use Rattle.dv_defs.specs.declared.image.FieldInfo.{FieldInfo}
use Rattle.dv_defs.specs.Images.{Image}
use Rattle.dv_defs.specs.Pools.{Field, fields_of, field_at, with_field_info}
use Rattle.dv_defs.specs.LookUp.{pick_field, is_field_of, field_declared}
use Rattle.dv_defs.specs.Numbering.{class_numbered, declared, numbered}
use Rattle.dv_defs.specs.Linked.{IsImage, defs}
use Rattle.law_linking.specs.Stripped.{field_info_stripped}
use Rattle.law_linking.specs.FieldPlaces.{is_like, place_from, place_or}
use Rattle.law_linking.proofs.Reach.{less_or_not}
use Rattle.law_linking.proofs.Members.{HasFields, numbered_fields, first_field, field_of, field_info, own_from, fields_of_class, field_info_numbered, field_count}
use Rattle.law_linking.proofs.Alike.{stripped_numbered}
use Rattle.law_linking.proofs.AlikeMembers.{stripped_field_declared}
use Rattle.law_linking.proofs.AlikeImages.{alike_field_id, alike_fields_of}
use Rattle.law_linking.proofs.FieldOrder.{field_or}
use Rattle.law_linking.proofs.OrderedImages.{image_alike}

abbrev all_count : List ClassInfo → ℕ
all_count cs = sum_by (λ c. length c.def.fields) cs

next : (c : ClassInfo) (cs : List ClassInfo) → sum_by (λ d. length d.def.fields) (c ∷ cs) ≡ length c.def.fields + all_count cs
next c cs = sum_by-cons (λ d. length d.def.fields) c cs

-- ---- the order of numbers

-- a field of an earlier class has a lower number than each of a later one
pub before_later : (cs : List ClassInfo) (i c k : ℕ) → i < c → k < length (fields_of (slice_get cs i)) → first_field cs i + k < first_field cs c
before_later [] i c k less within = absurd (omega arith)
before_later (x ∷ cs) i zero k less within = absurd (omega arith)
before_later (x ∷ cs) zero (suc c) k less within = omega (arith, next x (take c cs))
before_later (x ∷ cs) (suc i) (suc c) k less within =
    let rest = before_later cs i c k (omega arith) within in
    omega (arith, next x (take c cs), next x (take i cs))

-- and each is below the number of all
pub before_all : (cs : List ClassInfo) (i k : ℕ) → k < length (fields_of (slice_get cs i)) → first_field cs i + k < sum_by (λ c. length c.def.fields) cs
before_all [] i k within = absurd (omega arith)
before_all (x ∷ cs) zero k within = omega (arith, next x cs)
before_all (x ∷ cs) (suc i) k within =
    let rest = before_all cs i k within in
    omega (arith, next x cs, next x (take i cs))

-- ---- each number is a field's

item_at : {X : Type 0} (xs : List X) (k : ℕ) → k < length xs → (x : X) × (slice_get xs k ≡ Some x)
item_at [] k within = absurd (omega arith)
item_at (x ∷ xs) zero within = (x, refl)
item_at (x ∷ xs) (suc k) within = item_at xs k (omega arith)

-- a number by its class and place
record Placed (cs : List ClassInfo) (n : ℕ) : Type 0 where
  class : ℕ
  place : ℕ
  info : ClassInfo
  field : FieldDef
  class_is : slice_get cs class ≡ Some info
  field_is : slice_get info.def.fields place ≡ Some field
  number_is : n ≡ first_field cs class + place

placed : (cs : List ClassInfo) (n : ℕ) → n < all_count cs → Placed cs n
placed [] n within = absurd (omega arith)
placed (c ∷ cs) n within =
    ⊎_elim here (λ more. later (placed cs (n - length c.def.fields) (omega (arith, next c cs))) more) (less_or_not n (length c.def.fields))
  where
    here : n < length c.def.fields → Placed (c ∷ cs) n
    here less =
        let at = item_at c.def.fields n less in
        record { class = 0; place = n; info = c; field = at.0; class_is = refl; field_is = at.1; number_is = omega arith }

    later : Placed cs (n - length c.def.fields) → length c.def.fields ≤ n → Placed (c ∷ cs) n
    later rest more =
        record { class = suc rest.class; place = rest.place; info = rest.info; field = rest.field; class_is = rest.class_is; field_is = rest.field_is; number_is = omega (arith, rest.number_is, next c (take rest.class cs)) }

-- ---- a class's field by its place

first_of : {X : Type 0} → List X → Option X
first_of [] = None
first_of (x ∷ xs) = Some x

first_picked : (good : Field → Bool) (o : Option Field) (fs : List Field) (rest : Option Field) → rest ≡ first_of (filter good fs) → field_or good rest o ≡ first_of (filter good (cons_option o fs))
unfolding first_of
first_picked good None fs rest same = same
first_picked good (Some f) fs rest same = by (good f)
  where
    by : (b : Bool) → elim b [ true ↦ Some f | false ↦ rest ] ≡ first_of (cond b (f ∷ filter good fs) (filter good fs))
    by true = refl
    by false = same

-- the first that a test picks is the first of those that pass
pick_is_first : (image : Image) (good : Field → Bool) (is : List FieldInfo) (id : ℕ) → ((k : ℕ) → slice_get image.fields (id + k) ≡ slice_get is k) → pick_field image is id good ≡ first_of (filter good (filter_map (field_at image) (range_with_len id (length is))))
unfolding first_of field_at
pick_is_first image good [] id at = refl
pick_is_first image good (i ∷ is) id at =
    let here : slice_get image.fields id ≡ Some i = let same : id + 0 ≡ id = omega arith in ap (slice_get image.fields) (sym same) ∙ at 0 in
    let more : suc id ≡ id + 1 = omega arith in
    let rest : pick_field image is (suc id) good ≡ first_of (filter good (filter_map (field_at image) (range_with_len (id + 1) (length is)))) =
    pick_is_first image good is (suc id) (λ k. let same : suc id + k ≡ id + suc k = omega arith in ap (slice_get image.fields) same ∙ at (suc k)) ∙
    ap (λ (n : ℕ). first_of (filter good (filter_map (field_at image) (range_with_len n (length is))))) more in
    first_picked good (with_field_info image id (Some i)) (filter_map (field_at image) (range_with_len (id + 1) (length is))) (pick_field image is (suc id) good) rest ∙
    ap (λ o. first_of (filter good (cons_option (with_field_info image id o) (filter_map (field_at image) (range_with_len (id + 1) (length is)))))) (sym here)

own_place : (name : List ℕ) (t : Ty) (i k id base : ℕ) (fs : List FieldDef) → id ≡ base + k → option_map (λ (f : Field). f.id) (first_of (filter (is_field_of name t) (own_from field_of i k id fs))) ≡ option_map (λ j. base + j) (place_from (is_like name t) fs k)
unfolding first_of
own_place name t i k id base [] is = refl
own_place name t i k id base (f ∷ fs) is =
    by (is_like name t f) (own_place name t i (suc k) (suc id) base fs (omega arith))
  where
    by : (b : Bool) → option_map (λ (f : Field). f.id) (first_of (filter (is_field_of name t) (own_from field_of i (suc k) (suc id) fs))) ≡ option_map (λ j. base + j) (place_from (is_like name t) fs (suc k))
        → option_map (λ (f : Field). f.id) (first_of (cond b (field_of i k id f ∷ filter (is_field_of name t) (own_from field_of i (suc k) (suc id) fs)) (filter (is_field_of name t) (own_from field_of i (suc k) (suc id) fs))))
        ≡ option_map (λ j. base + j) (place_or b k (place_from (is_like name t) fs (suc k)))
    by true rest = ap Some is
    by false rest = rest

declared_of : (image : Image) → HasFields image → (name : List ℕ) (t : Ty) (c : ℕ) → option_map (λ (f : Field). f.id) (field_declared image name t c) ≡ option_map (λ j. first_field image.classes c + j) (place_from (is_like name t) (fields_of (slice_get image.classes c)) 0)
declared_of image has name t c =
    ap (option_map (λ (f : Field). f.id))
    (pick_is_first image (λ f. nat_eq f.info.class.0 c && is_field_of name t f) image.fields 0 (λ k. let same : 0 + k ≡ k = omega arith in ap (slice_get image.fields) same) ∙
    ap first_of (fields_of_class image has (is_field_of name t) c)) ∙
    own_place name t c 0 (first_field image.classes c) (first_field image.classes c) (fields_of (slice_get image.classes c)) (omega arith)

-- ---- the numbers of a linked image

numbered_first : (of : Image) (cs : List ClassInfo) (c : ℕ) → first_field (map (class_numbered of) (defs cs)) c ≡ first_field cs c
numbered_first of [] zero = refl
numbered_first of [] (suc c) = refl
numbered_first of (x ∷ cs) zero = refl
numbered_first of (x ∷ cs) (suc c) =
    next (class_numbered of x.def) (take c (map (class_numbered of) (defs cs))) ∙
    (ap (λ n. length x.def.fields + n) (numbered_first of cs c) ∙ sym (next x (take c cs)))

numbered_all : (of : Image) (cs : List ClassInfo) → all_count (map (class_numbered of) (defs cs)) ≡ all_count cs
numbered_all of [] = refl
numbered_all of (x ∷ cs) =
    next (class_numbered of x.def) (map (class_numbered of) (defs cs)) ∙
    (ap (λ n. length x.def.fields + n) (numbered_all of cs) ∙ sym (next x cs))

own_first : (image : Image) (c : ℕ) → first_field (numbered (defs image.classes) image.boot).classes c ≡ first_field image.classes c
unfolding numbered
own_first image c = numbered_first (declared (defs image.classes) image.boot) image.classes c

own_all : (image : Image) → all_count (numbered (defs image.classes) image.boot).classes ≡ all_count image.classes
unfolding numbered
own_all image = numbered_all (declared (defs image.classes) image.boot) image.classes

module _ (image : Image) (is : IsImage image) where
  abbrev own : Image
  own = numbered (defs image.classes) image.boot

  has_own : HasFields own
  has_own = numbered_fields (defs image.classes) image.boot

  fields_stripped : map field_info_stripped image.fields ≡ own.fields
  fields_stripped = ap (λ (i : Image). i.fields) (image_alike image is ∙ stripped_numbered (defs image.classes) image.boot)

  -- as many as all classes declare
  pub image_field_count : length image.fields ≡ sum_by (λ c. length c.def.fields) image.classes
  image_field_count =
      sym (length-map image.fields field_info_stripped) ∙ (ap length fields_stripped ∙ (field_count own has_own ∙ own_all image))

  -- the field at a number is that of its class and place
  pub image_field_at : (id : ℕ) (x : FieldInfo) → slice_get image.fields id ≡ Some x → (id ≡ first_field image.classes x.class.0 + x.place) × (x.place < length (fields_of (slice_get image.classes x.class.0)))
  image_field_at id x at =
      let within : id < length image.fields = slice_get_within image.fields id x at in
      let there : Placed own.classes id = placed own.classes id (omega (arith, within, image_field_count, own_all image)) in
      let known : slice_get own.fields (first_field own.classes there.class + there.place) ≡ Some (field_info there.class there.place) =
      field_info_numbered own has_own there.class there.place there.info there.field there.class_is there.field_is in
      let told : slice_get own.fields id ≡ Some (field_info_stripped x) =
      ap (λ (fs : List FieldInfo). slice_get fs id) (sym fields_stripped) ∙ (slice_get-map field_info_stripped image.fields id ∙ ap (option_map field_info_stripped) at) in
      let both : Some (field_info_stripped x) ≡ Some (field_info there.class there.place) = sym told ∙ (ap (slice_get own.fields) there.number_is ∙ known) in
      let same : field_info_stripped x ≡ field_info there.class there.place = cc in
      let class_same : x.class.0 ≡ there.class = ap (λ (i : FieldInfo). i.class.0) same in
      let place_same : x.place ≡ there.place = ap (λ (i : FieldInfo). i.place) same in
      let fields_are : fields_of (slice_get image.classes x.class.0) ≡ there.info.def.fields =
      alike_fields_of image own (image_alike image is) x.class.0 ∙ (ap (λ c. fields_of (slice_get own.classes c)) class_same ∙ ap fields_of there.class_is) in
      let inside : there.place < length there.info.def.fields = slice_get_within there.info.def.fields there.place there.field there.field_is in (
        there.number_is ∙ (ap (λ (n : ℕ). n + there.place) (own_first image there.class) ∙ sym (ap (λ (c : ℕ). first_field image.classes c + x.place) class_same ∙ ap (λ (k : ℕ). first_field image.classes there.class + k) place_same)),
        omega (arith, ap length fields_are, place_same, inside),
      )

  -- the field that a class declares has its class's first number and its place
  pub image_declared : (name : List ℕ) (t : Ty) (c : ℕ) → option_map (λ f. f.id) (field_declared image name t c) ≡ option_map (λ j. first_field image.classes c + j) (place_from (is_like name t) (fields_of (slice_get image.classes c)) 0)
  image_declared name t c =
      alike_field_id (λ i. field_declared i name t c) (λ i. stripped_field_declared i name t c) image own (image_alike image is) ∙
      (declared_of own has_own name t c ∙
      (ap (λ (n : ℕ). option_map (λ j. n + j) (place_from (is_like name t) (fields_of (slice_get own.classes c)) 0)) (own_first image c) ∙
      ap (λ (fs : List FieldDef). option_map (λ j. first_field image.classes c + j) (place_from (is_like name t) fs 0)) (sym (alike_fields_of image own (image_alike image is) c))))
