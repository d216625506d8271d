-- Types under types, by a test of classes.
use Rattle.std.proofs.Common.{◌≡◌, ◌⊎◌, inl, inr, ℕ, zero, suc, ◌+◌, ◌-◌, ◌<◌, ◌≤◌, List, length, Bool, true, false, ◌&&◌, Option, Some, None, refl, sym, ap, ◌∙◌, subst, arith}
use Rattle.std.specs.Prelude.{nat_lt, nat_le, bytes_eq}
use Rattle.std.proofs.lemmas.Bool.{leb-true, le-leb, lt-ltb, and_parts, and_from, or_left, or_right}
use Rattle.dv_defs.specs.declared.names.Base.{Base}
use Rattle.dv_defs.specs.declared.names.Base.TheVariants as base
use Rattle.dv_defs.specs.declared.names.Ty.{Ty}
use Rattle.dv_defs.specs.Images.{Image}
use Rattle.dv_defs.specs.Names.{object_name}
use Rattle.dv_defs.specs.Types.{ty_eq, class_in, is_array, is_class_base, is_reference, component}
use Rattle.dv_defs.specs.Pools.{class_named, name_at}
use Rattle.dv_defs.specs.Order.{ClassTest, both_found, class_under, under_class, under_base, under_type}
use Rattle.law_types.proofs.Facts.{no, either, by_first, by_second, first_chosen}
use Rattle.law_types.proofs.Equal.{ty_is, ty_equal, names_are, names_equal}
use Rattle.law_types.proofs.Walks.{named_inside, named_is}

-- ---- references

pub class_is_reference : (t : Ty) (name : List ℕ) → t.base ≡ base.Class name → is_reference t ≡ true
class_is_reference t name e = or_right (is_array t) (is_class_base t.base) (subst (λ (b : Base). is_class_base b ≡ true) (sym e) refl)

pub array_is_reference : (t : Ty) → 0 < t.dims → is_reference t ≡ true
array_is_reference t l = or_left (is_array t) (is_class_base t.base) (lt-ltb 0 t.dims l)

pub base_is_class : (b : Base) → is_class_base b ≡ true → (name : List ℕ) × (b ≡ base.Class name)
base_is_class (base.Class name) e = (name, refl)
base_is_class b e = no e

pub has_class : (b : Base) (name : List ℕ) → class_in b ≡ Some name → b ≡ base.Class name
has_class (base.Class other) name e = ap base.Class (cc)
has_class b name e = absurd (cc)

-- ---- under a class

-- classes of these names, of which the test holds
pub record AreUnder (image : Image) (test : ClassTest) (a : Base) (d : List ℕ) : Type 0 where
  pub name : List ℕ
  pub is_class : a ≡ base.Class name
  pub low : ℕ
  pub has_low : class_named image name ≡ Some low
  pub high : ℕ
  pub has_high : class_named image d ≡ Some high
  pub tested : test low high ≡ true

found_is : (image : Image) (test : ClassTest) (name d : List ℕ) (o p : Option ℕ) → class_named image name ≡ o → class_named image d ≡ p → both_found test o p ≡ true → AreUnder image test (base.Class name) d
found_is image test name d (Some c) (Some e) x y z = record { name = name; is_class = refl; low = c; has_low = x; high = e; has_high = y; tested = z }
found_is image test name d o p x y z = no z

pub under_is : (image : Image) (test : ClassTest) (a : Base) (d : List ℕ) → class_under image test a d ≡ true → AreUnder image test a d
under_is image test (base.Class name) d e = found_is image test name d (class_named image name) (class_named image d) refl refl e
under_is image test a d e = no e

pub is_under : (image : Image) (test : ClassTest) (name d : List ℕ) (low high : ℕ) → class_named image name ≡ Some low → class_named image d ≡ Some high → test low high ≡ true → class_under image test (base.Class name) d ≡ true
is_under image test name d low high x y z = rw (x, y) z

-- with no dimensions between
pub flat_under : (image : Image) (test : ClassTest) (n : ℕ) (a : Base) (d : List ℕ) → n ≡ 0 → under_class image test n a d ≡ true → (d ≡ object_name) ⊎ AreUnder image test a d
flat_under image test (suc n) a d e u = absurd (omega (arith, e))
flat_under image test zero a d e u = elim (either (is_class_base a && bytes_eq d object_name) (class_under image test a d) u) [
  | inl top ↦ inl (names_are d object_name (and_parts (is_class_base a) (bytes_eq d object_name) top).1)
  | inr under ↦ inr (under_is image test a d under)
]

pub under_from : (image : Image) (test : ClassTest) (a d : List ℕ) → AreUnder image test (base.Class a) d → class_under image test (base.Class a) d ≡ true
under_from image test a d u = subst (λ (x : Base). class_under image test x d ≡ true) (sym u.is_class) (is_under image test u.name d u.low u.high u.has_low u.has_high u.tested)

-- ---- under a type

-- the second is a class, or an array of one
pub record IsUnder (image : Image) (test : ClassTest) (s t : Ty) : Type 0 where
  pub name : List ℕ
  pub is_class : t.base ≡ base.Class name
  pub more : ℕ
  pub dims : s.dims ≡ more + t.dims
  pub tested : under_class image test more s.base name ≡ true

base_tested : (image : Image) (test : ClassTest) (n : ℕ) (a b : Base) (o : Option (List ℕ)) → class_in b ≡ o → elim o [ None ↦ false | Some d ↦ under_class image test n a d ] ≡ true → (name : List ℕ) × (b ≡ base.Class name) × (under_class image test n a name ≡ true)
base_tested image test n a b None e u = no u
base_tested image test n a b (Some d) e u = (d, has_class b d e, u)

not_equal : (image : Image) (test : ClassTest) (s t : Ty) (b : Bool) → nat_le t.dims s.dims ≡ b → elim b [ true ↦ under_base image test (s.dims - t.dims) s.base t.base | false ↦ false ] ≡ true → IsUnder image test s t
not_equal image test s t false e u = no u
not_equal image test s t true e u =
    let (name, is_class, tested) = base_tested image test (s.dims - t.dims) s.base t.base (class_in t.base) refl u in
    let l : t.dims ≤ s.dims = leb-true t.dims s.dims e in
    record { name = name; is_class = is_class; more = s.dims - t.dims; dims = omega (arith, l); tested = tested }

pub type_is : (image : Image) (test : ClassTest) (s t : Ty) → under_type image test s t ≡ true → (s ≡ t) ⊎ IsUnder image test s t
type_is image test s t e = elim (either (ty_eq s t) (elim (nat_le t.dims s.dims) [ true ↦ under_base image test (s.dims - t.dims) s.base t.base | false ↦ false ]) e) [
  | inl same ↦ inl (ty_is s t same)
  | inr under ↦ inr (not_equal image test s t (nat_le t.dims s.dims) refl under)
]

pub type_same : (image : Image) (test : ClassTest) (s t : Ty) → s ≡ t → under_type image test s t ≡ true
type_same image test s t e = by_first (ty_eq s t) (elim (nat_le t.dims s.dims) [ true ↦ under_base image test (s.dims - t.dims) s.base t.base | false ↦ false ]) (ty_equal s t e)

is_base_under : (image : Image) (test : ClassTest) (n : ℕ) (a b : Base) (name : List ℕ) → b ≡ base.Class name → under_class image test n a name ≡ true → under_base image test n a b ≡ true
is_base_under image test n a b name e u = subst (λ (x : Base). under_base image test n a x ≡ true) (sym e) u

pub is_type : (image : Image) (test : ClassTest) (s t : Ty) → IsUnder image test s t → under_type image test s t ≡ true
is_type image test s t u =
    let n : u.more ≡ s.dims - t.dims = omega (arith, u.dims) in
    let l : t.dims ≤ s.dims = omega (arith, u.dims) in
    let tested : under_class image test (s.dims - t.dims) s.base u.name ≡ true = subst (λ (k : ℕ). under_class image test k s.base u.name ≡ true) n u.tested in
    by_second (ty_eq s t) (elim (nat_le t.dims s.dims) [ true ↦ under_base image test (s.dims - t.dims) s.base t.base | false ↦ false ])
    (first_chosen (nat_le t.dims s.dims) (under_base image test (s.dims - t.dims) s.base t.base) false (le-leb t.dims s.dims l) (is_base_under image test (s.dims - t.dims) s.base t.base u.name u.is_class tested))

-- what is under a reference type is one
pub under_class_reference : (image : Image) (test : ClassTest) (n : ℕ) (s : Ty) (d : List ℕ) → n ≤ s.dims → under_class image test n s.base d ≡ true → is_reference s ≡ true
under_class_reference image test (suc n) s d l u = array_is_reference s (omega (arith, l))
under_class_reference image test zero s d l u = elim (either (is_class_base s.base && bytes_eq d object_name) (class_under image test s.base d) u) [
  | inl top ↦ or_right (is_array s) (is_class_base s.base) (and_parts (is_class_base s.base) (bytes_eq d object_name) top).0
  | inr under ↦ (let a = under_is image test s.base d under in class_is_reference s a.name a.is_class)
]

pub under_reference : (image : Image) (test : ClassTest) (s t : Ty) → under_type image test s t ≡ true → is_reference t ≡ true → is_reference s ≡ true
under_reference image test s t u r = elim (type_is image test s t u) [
  | inl same ↦ subst (λ (x : Ty). is_reference x ≡ true) (sym same) r
  | inr under ↦ under_class_reference image test under.more s under.name (omega (arith, under.dims)) under.tested
]

-- each reference is under Object
pub object_class_above : (image : Image) (test : ClassTest) (n : ℕ) (s : Ty) (d : List ℕ) → is_reference s ≡ true → s.dims ≡ n → d ≡ object_name → under_class image test n s.base d ≡ true
object_class_above image test (suc n) s d r l e = names_equal d object_name e
object_class_above image test zero s d r l e =
    let b : is_class_base s.base ≡ true = (let z : is_array s ≡ false = subst (λ (k : ℕ). nat_lt 0 k ≡ false) (sym l) refl in rw z at r) in
    by_first (is_class_base s.base && bytes_eq d object_name) (class_under image test s.base d) (and_from (is_class_base s.base) (bytes_eq d object_name) b (names_equal d object_name e))

pub object_above : (image : Image) (test : ClassTest) (s t : Ty) → is_reference s ≡ true → t.dims ≡ 0 → t.base ≡ base.Class object_name → under_type image test s t ≡ true
object_above image test s t r l e = is_type image test s t (record { name = object_name; is_class = e; more = s.dims; dims = omega (arith, l); tested = object_class_above image test s.dims s object_name r refl refl })

-- by a weaker test more is under a type
class_weaker : (image : Image) (test weaker : ClassTest) → ((c d : ℕ) → c < length image.classes → test c d ≡ true → weaker c d ≡ true) → (n : ℕ) (a : Base) (d : List ℕ) → under_class image test n a d ≡ true → under_class image weaker n a d ≡ true
class_weaker image test weaker h (suc n) a d u = u
class_weaker image test weaker h zero a d u = elim (either (is_class_base a && bytes_eq d object_name) (class_under image test a d) u) [
  | inl top ↦ by_first (is_class_base a && bytes_eq d object_name) (class_under image weaker a d) top
  | inr under ↦ (let x = under_is image test a d under in
      by_second (is_class_base a && bytes_eq d object_name) (class_under image weaker a d)
      (subst (λ (z : Base). class_under image weaker z d ≡ true) (sym x.is_class) (is_under image weaker x.name d x.low x.high x.has_low x.has_high (h x.low x.high (named_inside image x.name x.low x.has_low) x.tested))))
]

pub type_weaker : (image : Image) (test weaker : ClassTest) → ((c d : ℕ) → c < length image.classes → test c d ≡ true → weaker c d ≡ true) → (s t : Ty) → under_type image test s t ≡ true → under_type image weaker s t ≡ true
type_weaker image test weaker h s t u = elim (type_is image test s t u) [
  | inl same ↦ type_same image weaker s t same
  | inr x ↦ is_type image weaker s t (record { name = x.name; is_class = x.is_class; more = x.more; dims = x.dims; tested = class_weaker image test weaker h x.more s.base x.name x.tested })
]

-- what the order of types takes of a test of classes
pub record IsClassOrder (image : Image) (test : ClassTest) : Type 0 where
  pub trans : (c d e : ℕ) → c < length image.classes → test c d ≡ true → test d e ≡ true → test c e ≡ true
  pub top : (o d : ℕ) → class_named image object_name ≡ Some o → test o d ≡ true → o ≡ d

module _ (image : Image) (test : ClassTest) (ord : IsClassOrder image test) where
  -- above Object is Object alone
  pub above_object : (t d : List ℕ) → t ≡ object_name → class_under image test (base.Class t) d ≡ true → d ≡ object_name
  above_object t d e u =
      let a = under_is image test (base.Class t) d u in
      let n : t ≡ a.name = (let q : base.Class t ≡ base.Class a.name = a.is_class in cc) in
      let low : class_named image object_name ≡ Some a.low = subst (λ (x : List ℕ). class_named image x ≡ Some a.low) (sym n ∙ e) a.has_low in
      let same : a.low ≡ a.high = ord.top a.low a.high low a.tested in
      sym (named_is image d a.high a.has_high) ∙ (ap (λ (x : ℕ). name_at image x) (sym same) ∙ named_is image object_name a.low low)

  class_trans : (a : Base) (t d : List ℕ) → class_under image test a t ≡ true → class_under image test (base.Class t) d ≡ true → class_under image test a d ≡ true
  class_trans a t d u v =
      let x = under_is image test a t u in
      let y = under_is image test (base.Class t) d v in
      let n : t ≡ y.name = (let q : base.Class t ≡ base.Class y.name = y.is_class in cc) in
      let low : class_named image t ≡ Some y.low = subst (λ (z : List ℕ). class_named image z ≡ Some y.low) (sym n) y.has_low in
      let same : y.low ≡ x.high = (let p = x.has_high in cc) in
      let on : test x.high y.high ≡ true = subst (λ (z : ℕ). test z y.high ≡ true) same y.tested in
      let whole : test x.low y.high ≡ true = ord.trans x.low x.high y.high (named_inside image x.name x.low x.has_low) x.tested on in
      subst (λ (z : Base). class_under image test z d ≡ true) (sym x.is_class) (is_under image test x.name d x.low y.high x.has_low y.has_high whole)

  -- from a class on, with no dimensions between
  flat_trans : (k : ℕ) (a : Base) (t d : List ℕ) → under_class image test k a t ≡ true → class_under image test (base.Class t) d ≡ true → under_class image test k a d ≡ true
  flat_trans (suc k) a t d u v = names_equal d object_name (above_object t d (names_are t object_name u) v)
  flat_trans zero a t d u v = elim (either (is_class_base a && bytes_eq t object_name) (class_under image test a t) u) [
    | inl top ↦ (let p = and_parts (is_class_base a) (bytes_eq t object_name) top in by_first (is_class_base a && bytes_eq d object_name) (class_under image test a d) (and_from (is_class_base a) (bytes_eq d object_name) p.0 (names_equal d object_name (above_object t d (names_are t object_name p.1) v))))
    | inr under ↦ by_second (is_class_base a && bytes_eq d object_name) (class_under image test a d) (class_trans a t d under v)
  ]

  -- Object is above all that is under a class
  to_object : (k : ℕ) (a : Base) (t d : List ℕ) → under_class image test k a t ≡ true → d ≡ object_name → under_class image test k a d ≡ true
  to_object (suc k) a t d u e = names_equal d object_name e
  to_object zero a t d u e =
      let b : is_class_base a ≡ true = elim (either (is_class_base a && bytes_eq t object_name) (class_under image test a t) u) [
        | inl top ↦ (and_parts (is_class_base a) (bytes_eq t object_name) top).0
        | inr under ↦ (let x = under_is image test a t under in subst (λ (z : Base). is_class_base z ≡ true) (sym x.is_class) refl)
      ] in
      by_first (is_class_base a && bytes_eq d object_name) (class_under image test a d) (and_from (is_class_base a) (bytes_eq d object_name) b (names_equal d object_name e))

  under_class_trans : (m n k : ℕ) (a : Base) (t d : List ℕ) → k ≡ m + n → under_class image test m a t ≡ true → under_class image test n (base.Class t) d ≡ true → under_class image test k a d ≡ true
  under_class_trans m (suc n) zero a t d e u v = absurd (omega (arith, e))
  under_class_trans m (suc n) (suc k) a t d e u v = v
  under_class_trans m zero k a t d e u v =
      let q : m ≡ k = omega (arith, e) in
      let w : under_class image test k a t ≡ true = subst (λ (z : ℕ). under_class image test z a t ≡ true) q u in
      elim (either (bytes_eq d object_name) (class_under image test (base.Class t) d) v) [
        | inl top ↦ to_object k a t d w (names_are d object_name top)
        | inr under ↦ flat_trans k a t d w under
      ]

  both_under : (s t r : Ty) → IsUnder image test s t → IsUnder image test t r → IsUnder image test s r
  both_under s t r x y = record {
    name = y.name;
    is_class = y.is_class;
    more = x.more + y.more;
    dims = omega (arith, x.dims, y.dims);
    tested = under_class_trans x.more y.more (x.more + y.more) s.base x.name y.name refl x.tested (subst (λ (z : Base). under_class image test y.more z y.name ≡ true) x.is_class y.tested);
  }

  pub type_trans : (s t r : Ty) → under_type image test s t ≡ true → under_type image test t r ≡ true → under_type image test s r ≡ true
  type_trans s t r u v = elim (type_is image test s t u) [
    | inl same ↦ subst (λ (z : Ty). under_type image test z r ≡ true) (sym same) v
    | inr x ↦ elim (type_is image test t r v) [ inl same ↦ subst (λ (z : Ty). under_type image test s z ≡ true) same u | inr y ↦ is_type image test s r (both_under s t r x y) ]
  ]

  -- of arrays the components
  pub under_component : (s t : Ty) → under_type image test s t ≡ true → 0 < t.dims → (is_array s ≡ true) × (under_type image test (component s) (component t) ≡ true)
  under_component s t u l = elim (type_is image test s t u) [
    | inl same ↦ (lt-ltb 0 s.dims (let q : s.dims ≡ t.dims = ap (λ (z : Ty). z.dims) same in omega (arith, q, l)), type_same image test (component s) (component t) (ap (λ (z : Ty). component z) same))
    | inr x ↦ (lt-ltb 0 s.dims (omega (arith, x.dims, l)), is_type image test (component s) (component t) (record { name = x.name; is_class = x.is_class; more = x.more; dims = omega (arith, x.dims, l); tested = x.tested }))
  ]
