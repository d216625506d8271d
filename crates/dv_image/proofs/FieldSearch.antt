-- Steps of the search for a field's number.
use Rattle.std.proofs.Common.{◌≡◌, ◌≢◌, ◌<◌, ◌≤◌, ◌+◌, ℕ, true, List, length, get_or, Option, Some, None, refl, ap, sym, subst, ◌∙◌, arith}
use Rattle.std.specs.Prelude.{slice_get, sum_by, take, nat_lt, nat_eq, option_map}
use Rattle.std.proofs.lemmas.Bool.Decides.{nat_tests}
use Rattle.std.proofs.lemmas.Option.{slice_get_read}
use Rattle.dv_defs.specs.declared.names.Ty.{Ty}
use Rattle.dv_defs.specs.declared.names.FieldId.{FieldId}
use Rattle.dv_defs.specs.declared.image.ClassInfo.{ClassInfo}
use Rattle.dv_defs.specs.declared.image.FieldInfo.{FieldInfo}
use Rattle.dv_defs.specs.Images.{Image}
use Rattle.dv_defs.specs.Linked.{IsImage}
use Rattle.dv_defs.specs.Pools.{Field, fields_of}
use Rattle.dv_defs.specs.LookUp.{field_declared}
use Rattle.law_linking.specs.FieldPlaces.{is_like, place_from, place_in_class, field_count_at, number_at, id_of}
use Rattle.law_linking.proofs.ImageMembers.{image_fields_few}
use Rattle.law_linking.proofs.FieldNumbers.{before_later, before_all, image_field_count, image_field_at, image_declared}

-- a field of a number by its class and its place
pub record IsNumbered (image : Image) (number : ℕ) (x : FieldInfo) : Type 0 where
  pub number_is : number ≡ number_at image x.class.0 x.place
  pub within : x.place < field_count_at image x.class.0

numbered_in : (image : Image) → IsImage image → (number : ℕ) (x : FieldInfo) → slice_get image.fields number ≡ Some x → IsNumbered image number x
unfolding number_at
numbered_in image is number x at =
    let told = image_field_at image is number x at in
    record { number_is = told.0; within = told.1 }

pub numbered : (i image : Image) → IsImage i → i ≡ image → (fields : List FieldInfo) → fields ≡ i.fields → (number : ℕ) (x : FieldInfo) → number < length fields → x ≡ get_or fields number x → IsNumbered image number x
numbered i image is same fields are number x within there =
    subst (λ j. IsNumbered j number x) same
    (numbered_in i is number x (ap (λ fs. slice_get fs number) (sym are) ∙ slice_get_read fields (length fields) number x refl within there))

both_true : (a b c d : ℕ) → a < b → c < d → nat_lt a b ≡ nat_lt c d
both_true a b c d first second = grind (arith, nat_tests)

-- one of a later class stands after
pub after_class : (image : Image) (c k number : ℕ) (x : FieldInfo) → IsNumbered image number x → k < field_count_at image c → c < x.class.0 → nat_lt c x.class.0 ≡ nat_lt (number_at image c k) number
unfolding number_at
after_class image c k number x told within less =
    let before = before_later image.classes c x.class.0 k less within in
    both_true c x.class.0 (number_at image c k) number less (omega (arith, told.number_is))

same_more : (a b base number : ℕ) → number ≡ base + b → nat_lt a b ≡ nat_lt (base + a) number
same_more a b base number is = grind (arith, nat_tests)

-- in the same class places decide
pub after_place : (image : Image) (c k number : ℕ) (x : FieldInfo) → IsNumbered image number x → c ≡ x.class.0 → nat_lt k x.place ≡ nat_lt (number_at image c k) number
unfolding number_at
after_place image c k number x told same =
    same_more k x.place (number_at image c 0) number (told.number_is ∙ (ap (λ d. number_at image d x.place) (sym same) ∙ omega arith)) ∙
    ap (λ n. nat_lt n number) (let z : number_at image c 0 + k ≡ number_at image c k = omega arith in z)

both_false : (a b c d : ℕ) → a ≢ b → d ≤ c → nat_eq a b ≡ nat_lt c d
both_false a b c d first second = grind (arith, nat_tests)

-- and one of an earlier class stands before
pub not_after : (image : Image) (c k number : ℕ) (x : FieldInfo) → IsNumbered image number x → x.class.0 ≤ c → c ≢ x.class.0 → nat_eq c x.class.0 ≡ nat_lt (number_at image c k) number
unfolding number_at
not_after image c k number x told most other =
    let less : x.class.0 < c = omega arith in
    let before = before_later image.classes x.class.0 c x.place less told.within in
    both_false c x.class.0 (number_at image c k) number other (omega (arith, told.number_is))

-- each number of a field is in range
all_in : (image : Image) → IsImage image → (c k : ℕ) → k < field_count_at image c → number_at image c k < length image.fields
unfolding number_at
all_in image is c k within =
    let before = before_all image.classes c k within in
    omega (arith, image_field_count image is)

pub number_below : (i image : Image) → IsImage i → i ≡ image → (c k count : ℕ) → count ≡ length i.fields → k < field_count_at image c → number_at image c k < count
number_below i image is same c k count counted within =
    let below : number_at image c k < length image.fields = all_in image (subst IsImage same is) c k within in
    omega (arith, below, counted, ap (λ (j : Image). length j.fields) same)

pub past_all : (i image : Image) → IsImage i → i ≡ image → (c k number count : ℕ) → count ≡ length i.fields → k < field_count_at image c → count ≤ number → true ≡ nat_lt (number_at image c k) number
past_all i image is same c k number count counted within beyond =
    let below : number_at image c k < count = number_below i image is same c k count counted within in
    grind (arith, nat_tests)

pub fields_few : (i image : Image) → IsImage i → i ≡ image → length image.fields ≤ 16549
fields_few i image is same = image_fields_few image (subst IsImage same is)

-- ---- what a class declares

abbrev id_at : ℕ → FieldId
id_at n = record { 0 = n }

id_kept : (o : Option Field) → option_map id_at (option_map (λ (f : Field). f.id) o) ≡ id_of o
id_kept None = refl
id_kept (Some f) = refl

id_made : (base : ℕ) (o : Option ℕ) → option_map id_at (option_map (λ k. base + k) o) ≡ option_map (λ k. id_at (base + k)) o
id_made base None = refl
id_made base (Some k) = refl

declared_in : (image : Image) → IsImage image → (c : ℕ) (name : List ℕ) (t : Ty) → id_of (field_declared image name t c) ≡ option_map (λ k. record { 0 = number_at image c k }) (place_in_class image c name t)
unfolding number_at
declared_in image is c name t =
    sym (id_kept (field_declared image name t c)) ∙
    (ap (option_map id_at) (image_declared image is name t c) ∙
    id_made (sum_by (λ i. length i.def.fields) (take c image.classes)) (place_in_class image c name t))

-- the field that a class declares has the number of its place
pub declared_at : (i image : Image) → IsImage i → i ≡ image → (classes : List ClassInfo) → classes ≡ i.classes → (c : ℕ) (name : List ℕ) (t : Ty) (info : Option ClassInfo) → slice_get classes c ≡ info → (o : Option ℕ) → o ≡ place_from (is_like name t) (fields_of info) 0 → id_of (field_declared image name t c) ≡ option_map (λ k. record { 0 = number_at image c k }) o
declared_at i image is same classes are c name t info at o place =
    declared_in image (subst IsImage same is) c name t ∙
    ap (option_map (λ k. record { 0 = number_at image c k }))
    (ap (λ (j : Image). place_from (is_like name t) (fields_of (slice_get j.classes c)) 0) (sym same) ∙
    (ap (λ (cs : List ClassInfo). place_from (is_like name t) (fields_of (slice_get cs c)) 0) (sym are) ∙
    (ap (λ (x : Option ClassInfo). place_from (is_like name t) (fields_of x) 0) at ∙ sym place)))
