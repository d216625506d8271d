-- Fields of one name and type.
use Rattle.std.proofs.Common.{◌≡◌, ◌+◌, ◌<◌, ◌≤◌, ℕ, Bool, true, false, cond, not, ◌&&◌, ◌||◌, bytes_eq, List, [], ◌∷◌, ◌++◌, length, take, get_or, position, All, IsTrue, option_map, Option, Some, None, refl, subst, sym, ap, ◌∙◌, arith}
use Rattle.std.specs.Prelude.{nat_eq, nat_lt}
use Rattle.std.specs.declared.cmp.Ordering.{Ordering}
use Rattle.std.specs.Ordering.{is_eq}
use Rattle.std.specs.List.{list_any}
use Rattle.std.proofs.lemmas.List.{take_more, take_all, length-map, get_or-map}
use Rattle.std.proofs.lemmas.List.Elements.{All-more, All-same}
use Rattle.std.proofs.lemmas.List.Folds.{list_any-append}
use Rattle.std.proofs.lemmas.Option.{slice_get_read}
use Rattle.std.proofs.lemmas.Slice.Eq.{bytes_eq-Decides}
use Rattle.dv_defs.specs.declared.class.FieldDef.{FieldDef}
use Rattle.dv_defs.specs.declared.names.Base.{Base}
use Rattle.dv_defs.specs.declared.names.Base.TheVariants as base
use Rattle.dv_defs.specs.declared.names.Ty.{Ty}
use Rattle.dv_defs.specs.declared.faults.LinkKind.{LinkKind}
use Rattle.dv_defs.specs.declared.faults.LinkKind.TheVariants as kind
use Rattle.dv_defs.specs.Field.{may_stand}
use Rattle.dv_defs.specs.First.{first_below, when}
use Rattle.dv_defs.specs.Types.{ty_eq, base_eq}
use Rattle.dv_defs.specs.LinkFaults.{same_field, field_twice, is_number, has_field_twice, found, tested, fault_at, first_fault_by}
use Rattle.dv_defs.specs.Linked.{defs, HasValues}
use Rattle.dv_defs.specs.declared.image.ClassInfo.{ClassInfo}
use Rattle.dv_defs.proofs.Keys.{type_keys}
use Rattle.law_linking.proofs.First.{first_below_found, first_below_more}
use Rattle.dv_hier.specs.declared.fields.FieldKey.{FieldKey}
use Rattle.dv_hier.specs.contracts.fields.FieldKeyOrd.TheImpl as of_key
use Rattle.dv_hier.specs.contracts.fields.FieldKeyOrd.TheImpl.Laws as of_order
use Rattle.dv_hier.proofs.Twice.{first_here, first_before, some_place, some_of, none_of}

abbrev pub key_cmp : FieldKey → FieldKey → Ordering
key_cmp = (of_key.ghosts).cmp

-- a field has the name and the type of a key
abbrev pub is_like : FieldKey → FieldDef → Bool
is_like k f = bytes_eq f.name k.name.now && ty_eq f.ty k.ty.now

-- a value stands on a static field that it fits
abbrev pub HasValue : FieldDef → Type 0
HasValue f = IsTrue (may_stand f.init f.ty f.flags)

bytes_same : (xs : List ℕ) → bytes_eq xs xs ≡ true
bytes_same xs = (bytes_eq-Decides xs xs).1 refl

base_same : (b : Base) → base_eq b b ≡ true
base_same base.Z = refl
base_same base.B = refl
base_same base.C = refl
base_same base.S = refl
base_same base.I = refl
base_same base.J = refl
base_same (base.Class name) = bytes_same name

number_same : (n : ℕ) → nat_eq n n ≡ true
number_same n = grind arith

type_same : (t : Ty) → ty_eq t t ≡ true
type_same t = (λ j. number_same t.dims j && base_same t.base j)

field_same : (f : FieldDef) → same_field f f ≡ true
field_same f = (λ j. bytes_same f.name j && type_same f.ty j)

-- the key of a field is like those that the field is like
like_key : (k : FieldKey) (f : FieldDef) → k.name.now ≡ f.name → k.ty.now ≡ f.ty → is_like k ≡ same_field f
like_key k f name ty = λ j g. bytes_eq g.name (name j) && ty_eq g.ty (ty j)

key_like : (k q : FieldKey) (f : FieldDef) → k.name.now ≡ f.name → k.ty.now ≡ f.ty → is_eq (key_cmp k q) ≡ is_like q f
key_like k q f name ty = sym (of_order.matches_eq-law k q) ∙ λ j. bytes_eq (name j) q.name.now && type_keys j (ty j) q.ty.now

or_last : (a b : Bool) → cond b true a ≡ (a || (b || false))
or_last true true = refl
or_last true false = refl
or_last false true = refl
or_last false false = refl

-- a set that has one more key
pub told_more : (fs : List FieldDef) (i : ℕ) (f : FieldDef) (k q : FieldKey) (before after : Bool) → i < length fs → f ≡ get_or fs i f → k.name.now ≡ f.name → k.ty.now ≡ f.ty → before ≡ list_any (is_like q) (take i fs) → after ≡ cond (is_eq (key_cmp k q)) true before → after ≡ list_any (is_like q) (take (i + 1) fs)
told_more fs i f k q before after within is name ty told added =
    let more : take (i + 1) fs ≡ take i fs ++ f ∷ [] = take_more fs i f within ∙ (λ j. take i fs ++ sym is j ∷ []) in
    added ∙ ((λ j. cond (key_like k q f name ty j) true (told j)) ∙
    (or_last (list_any (is_like q) (take i fs)) (is_like q f) ∙
    (sym (list_any-append (is_like q) (take i fs) (f ∷ [])) ∙ ap (list_any (is_like q)) (sym more))))

at_place : (fs : List FieldDef) (i : ℕ) (f : FieldDef) (o : Option ℕ) → i < length fs → f ≡ get_or fs i f → position (same_field f) fs ≡ o → field_twice fs i ≡ when (not (is_number i o)) (kind.FieldTwice f.name)
at_place fs i f o within is e =
    ap (λ (g : Option FieldDef). elim g as (λ _. Option LinkKind) [ None ↦ None | Some f ↦ when (not (is_number i (position (same_field f) fs))) (kind.FieldTwice f.name) ]) (slice_get_read fs (length fs) i f refl within is) ∙
    ap (λ (o : Option ℕ). when (not (is_number i o)) (kind.FieldTwice f.name)) e

-- an earlier field is like this one
field_told : (fs : List FieldDef) (i : ℕ) (f : FieldDef) → i < length fs → f ≡ get_or fs i f → list_any (same_field f) (take i fs) ≡ true → field_twice fs i ≡ Some (kind.FieldTwice f.name)
field_told fs i f within is there =
    let at = some_of (position (same_field f) (take i fs)) (some_place (same_field f) (take i fs) ∙ there) in
    let parts = first_before (same_field f) fs i at.0 f at.1 (omega arith) in
    at_place fs i f (Some at.0) within is parts.0 ∙ other i at.0 (kind.FieldTwice f.name) parts.1
  where
    other : (i k : ℕ) (fault : LinkKind) → k < i → when (not (nat_eq i k)) fault ≡ Some fault
    other i k fault less = grind arith

-- no earlier field is like this one
field_new : (fs : List FieldDef) (i : ℕ) (f : FieldDef) → i < length fs → f ≡ get_or fs i f → list_any (same_field f) (take i fs) ≡ false → field_twice fs i ≡ None
field_new fs i f within is new =
    let none = none_of (position (same_field f) (take i fs)) (some_place (same_field f) (take i fs) ∙ new) in
    let same : same_field f (get_or fs i f) ≡ true = ap (same_field f) (sym is) ∙ field_same f in
    at_place fs i f (Some i) within is (first_here (same_field f) fs i f none within same) ∙ itself i (kind.FieldTwice f.name)
  where
    itself : (i : ℕ) (fault : LinkKind) → when (not (nat_eq i i)) fault ≡ None
    itself i fault = grind arith

pub several_are : (n : ℕ) → 1 < n → nat_lt 1 n ≡ true
several_are n more = grind arith

was_there : (had added : Bool) → added ≡ not had → added ≡ false → had ≡ true
was_there true added e h = refl
was_there false added e h = absurd (cc)

was_new : (had added : Bool) → added ≡ not had → added ≡ true → had ≡ false
was_new true added e h = absurd (cc)
was_new false added e h = refl

-- the turn of a loop whose set has the key of the field
pub twice_found : (fs : List FieldDef) (i : ℕ) (f : FieldDef) (k : FieldKey) (had added : Bool) (name : List ℕ) → first_below (field_twice fs) i ≡ None → i < length fs → f ≡ get_or fs i f → k.name.now ≡ f.name → k.ty.now ≡ f.ty → had ≡ list_any (is_like k) (take i fs) → added ≡ not had → added ≡ false → name ≡ k.name.now → first_below (field_twice fs) (length fs) ≡ Some (kind.FieldTwice name)
twice_found fs i f k had added name before within is named typed told new old same =
    let there : list_any (same_field f) (take i fs) ≡ true = ap (λ (p : FieldDef → Bool). list_any p (take i fs)) (sym (like_key k f named typed)) ∙ (sym told ∙ was_there had added new old) in
    first_below_found (field_twice fs) (length fs) i (kind.FieldTwice name) before (field_told fs i f within is there ∙ ap (λ (n : List ℕ). Some (kind.FieldTwice n)) (sym (same ∙ named))) within

-- the turn of a loop whose set hasn't
pub twice_more : (fs : List FieldDef) (i : ℕ) (f : FieldDef) (k : FieldKey) (had added : Bool) → first_below (field_twice fs) i ≡ None → i < length fs → f ≡ get_or fs i f → k.name.now ≡ f.name → k.ty.now ≡ f.ty → had ≡ list_any (is_like k) (take i fs) → added ≡ not had → added ≡ true → first_below (field_twice fs) (i + 1) ≡ None
twice_more fs i f k had added before within is named typed told new fresh =
    let none : list_any (same_field f) (take i fs) ≡ false = ap (λ (p : FieldDef → Bool). list_any p (take i fs)) (sym (like_key k f named typed)) ∙ (sym told ∙ was_new had added new fresh) in
    first_below_more (field_twice fs) i before (field_new fs i f within is none)

-- a field that stands alone
pub alone_more : (fs : List FieldDef) (i : ℕ) (f : FieldDef) → first_below (field_twice fs) i ≡ None → i < length fs → f ≡ get_or fs i f → length fs ≤ 1 → first_below (field_twice fs) (i + 1) ≡ None
alone_more fs i f before within is alone =
    let first : i ≡ 0 = omega arith in
    first_below_more (field_twice fs) i before (field_new fs i f within is (ap (λ (n : ℕ). list_any (same_field f) (take n fs)) first))

pub alone_told : (n : ℕ) → n ≤ 1 → nat_lt 1 n ≡ true → {X : Type 0} → X
alone_told n alone several = absurd (grind arith)

pub value_more : (fs : List FieldDef) (i : ℕ) (f : FieldDef) → i < length fs → f ≡ get_or fs i f → All HasValue (take i fs) → HasValue f → All HasValue (take (i + 1) fs)
value_more fs i f within is before here = All-more HasValue fs i f within before (subst HasValue is here)

pub all_values : (fs : List FieldDef) (i : ℕ) → length fs ≤ i → All HasValue (take i fs) → All HasValue fs
all_values fs i all values = All-same HasValue fs (take i fs) (sym (take_all i fs all)) values

-- ---- over classes

defs_count : (infos : List ClassInfo) → length (defs infos) ≡ length infos
defs_count infos = length-map infos (λ (c : ClassInfo). c.def)

def_at : (infos : List ClassInfo) (i : ℕ) (c : ClassInfo) → i < length infos → c ≡ get_or infos i c → get_or (defs infos) i c.def ≡ c.def
def_at infos i c within is = get_or-map (λ (c : ClassInfo). c.def) infos i c c.def within ∙ ap (λ (c : ClassInfo). c.def) (sym is)

class_at : (infos : List ClassInfo) (i : ℕ) (c : ClassInfo) (o : Option LinkKind) → i < length infos → c ≡ get_or infos i c → first_below (field_twice c.def.fields) (length c.def.fields) ≡ o → fault_at has_field_twice (defs infos) i ≡ option_map (found c.def.name) o
class_at infos i c o within is e =
    ap (tested has_field_twice i) (slice_get_read (defs infos) (length (defs infos)) i c.def refl (omega (arith, defs_count infos)) (sym (def_at infos i c within is))) ∙
    ap (option_map (found c.def.name)) e

-- what is known of the items of a class
pub told_of : (items fs : List FieldDef) (o p : Option (List ℕ)) → items ≡ fs → first_below (field_twice items) (length items) ≡ option_map kind.FieldTwice o → o ≡ p → first_below (field_twice fs) (length fs) ≡ option_map kind.FieldTwice p
told_of items fs o p same twice is =
    ap (λ (fs : List FieldDef). first_below (field_twice fs) (length fs)) (sym same) ∙ (twice ∙ ap (option_map kind.FieldTwice) is)

-- the turn of a loop at a class with a field that it declares twice
pub class_twice : (infos : List ClassInfo) (i : ℕ) (c : ClassInfo) (name : List ℕ) → first_below (fault_at has_field_twice (defs infos)) i ≡ None → i < length infos → c ≡ get_or infos i c → first_below (field_twice c.def.fields) (length c.def.fields) ≡ Some (kind.FieldTwice name) → first_fault_by has_field_twice (defs infos) ≡ Some (found c.def.name (kind.FieldTwice name))
class_twice infos i c name before within is twice =
    first_below_found (fault_at has_field_twice (defs infos)) (length (defs infos)) i (found c.def.name (kind.FieldTwice name)) before
    (class_at infos i c (Some (kind.FieldTwice name)) within is twice) (omega (arith, defs_count infos))

-- at another class
pub class_once : (infos : List ClassInfo) (i : ℕ) (c : ClassInfo) → first_below (fault_at has_field_twice (defs infos)) i ≡ None → i < length infos → c ≡ get_or infos i c → first_below (field_twice c.def.fields) (length c.def.fields) ≡ None → first_below (fault_at has_field_twice (defs infos)) (i + 1) ≡ None
class_once infos i c before within is once = first_below_more (fault_at has_field_twice (defs infos)) i before (class_at infos i c None within is once)

pub class_values : (infos : List ClassInfo) (i : ℕ) (c : ClassInfo) → i < length infos → c ≡ get_or infos i c → All HasValues (take i (defs infos)) → HasValues c.def → All HasValues (take (i + 1) (defs infos))
class_values infos i c within is before here =
    All-more HasValues (defs infos) i c.def (omega (arith, defs_count infos)) before (subst HasValues (sym (def_at infos i c within is)) here)

pub all_class_values : (infos : List ClassInfo) (i : ℕ) → length infos ≤ i → All HasValues (take i (defs infos)) → All HasValues (defs infos)
all_class_values infos i all values =
    All-same HasValues (defs infos) (take i (defs infos)) (sym (take_all i (defs infos) (omega (arith, defs_count infos)))) values
