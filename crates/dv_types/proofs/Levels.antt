-- The nearest common superclass of arrays, level by level, all levels at once.
use Rattle.std.proofs.Common.{◌≡◌, ◌⊎◌, inl, inr, ℕ, zero, suc, ◌-◌, ◌<◌, ◌≤◌, Bool, true, false, ◌&&◌, ◌||◌, refl, sym, ap, ◌∙◌, arith}
use Rattle.std.specs.Prelude.{nat_lt}
use Rattle.std.proofs.lemmas.Bool.{lt-ltb}
use Rattle.dv_defs.specs.declared.names.Base.{Base}
use Rattle.dv_defs.specs.declared.names.Ty.{Ty}
use Rattle.dv_defs.specs.Images.{Image}
use Rattle.dv_defs.specs.Types.{component, is_array, is_class_base, is_reference, of_base, ty_eq}
use Rattle.dv_defs.specs.Common.{array_of, common_at, common_flat, common_super, joins_by_component}
use Rattle.law_types.proofs.Equal.{ty_equal, ty_from, ty_is}
use Rattle.dv_types.specs.Numbers.{depth, lowered, raised}

abbrev deep_by : Bool → ℕ → ℕ
deep_by class dims = elim class [ true ↦ dims | false ↦ dims - 1 ]

-- ---- one level

array_by : (class : Bool) (dims : ℕ) → 0 < deep_by class dims → nat_lt 0 dims ≡ true
array_by true dims l = lt-ltb 0 dims l
array_by false dims l = lt-ltb 0 dims (omega arith)

inner_by : (class : Bool) (dims : ℕ) → 0 < deep_by class dims → (nat_lt 0 (dims - 1) || class) ≡ true
inner_by true dims l = right (nat_lt 0 (dims - 1))
  where
    right : (b : Bool) → (b || true) ≡ true
    right true = refl
    right false = refl
inner_by false dims l = let some : nat_lt 0 (dims - 1) ≡ true = lt-ltb 0 (dims - 1) l in rw some refl

flat_by : (class : Bool) (dims : ℕ) → deep_by class dims ≡ 0 → (nat_lt 0 dims ≡ false) ⊎ ((nat_lt 0 (dims - 1) || class) ≡ false)
flat_by true dims e = inl (grind arith)
flat_by false dims e = inr (let none : nat_lt 0 (dims - 1) ≡ false = grind arith in rw none refl)

all_four : (a b c d : Bool) → a ≡ true → b ≡ true → c ≡ true → d ≡ true → (a && b && c && d) ≡ true
all_four a b c d p q r s = rw (p, q, r, s) refl

first_fails : (a b c d : Bool) → (a ≡ false) ⊎ (c ≡ false) → (a && b && c && d) ≡ false
first_fails false b c d e = refl
first_fails true false c d e = refl
first_fails true true false d e = refl
first_fails true true true d (inl e) = absurd (cc)
first_fails true true true d (inr e) = absurd (cc)

second_fails : (a b c d : Bool) → (b ≡ false) ⊎ (d ≡ false) → (a && b && c && d) ≡ false
second_fails false b c d e = refl
second_fails true false c d e = refl
second_fails true true false d e = refl
second_fails true true true false e = refl
second_fails true true true true (inl e) = absurd (cc)
second_fails true true true true (inr e) = absurd (cc)

joins : (a b : Ty) → 0 < depth a → 0 < depth b → joins_by_component a b ≡ true
joins a b l k =
    all_four (is_array a) (is_array b) (is_reference (component a)) (is_reference (component b))
    (array_by (is_class_base a.base) a.dims l) (array_by (is_class_base b.base) b.dims k) (inner_by (is_class_base a.base) a.dims l) (inner_by (is_class_base b.base) b.dims k)

no_joins : (a b : Ty) → (depth a ≡ 0) ⊎ (depth b ≡ 0) → joins_by_component a b ≡ false
no_joins a b (inl e) = first_fails (is_array a) (is_array b) (is_reference (component a)) (is_reference (component b)) (flat_by (is_class_base a.base) a.dims e)
no_joins a b (inr e) = second_fails (is_array a) (is_array b) (is_reference (component a)) (is_reference (component b)) (flat_by (is_class_base b.base) b.dims e)

inner_depth : (class : Bool) (dims : ℕ) → deep_by class (dims - 1) ≡ deep_by class dims - 1
inner_depth true dims = refl
inner_depth false dims = refl

depth_dims : (class : Bool) (dims : ℕ) → deep_by class dims ≤ dims
depth_dims true dims = omega arith
depth_dims false dims = omega arith

pub depth_within : (t : Ty) → depth t ≤ t.dims
depth_within t = depth_dims (is_class_base t.base) t.dims

apart : (a b : Ty) → 0 < a.dims → 0 < b.dims → ty_eq a b ≡ false → (r : Bool) → ty_eq (component a) (component b) ≡ r → r ≡ false
apart a b l k other false e = refl
apart a b l k other true e =
    let same : component a ≡ component b = ty_is (component a) (component b) e in
    let dims : a.dims - 1 ≡ b.dims - 1 = ap (λ (t : Ty). t.dims) same in
    let whole : a ≡ b = ty_from a b (omega (arith, dims, l, k)) (ap (λ (t : Ty). t.base) same) in
    let equal : ty_eq a b ≡ true = ty_equal a b whole in
    absurd (cc)

-- ---- all levels

lowered_none : (t : Ty) → lowered 0 t ≡ t
lowered_none t = ty_from (lowered 0 t) t (omega arith) refl

lowered_more : (n : ℕ) (t : Ty) → lowered n (component t) ≡ lowered (suc n) t
lowered_more n t = ty_from (lowered n (component t)) (lowered (suc n) t) (omega arith) refl

raised_none : (t : Ty) → raised 0 t ≡ t
raised_none t = ty_from (raised 0 t) t (omega arith) refl

pub raised_flat : (n : ℕ) (b : Base) → raised n (of_base b) ≡ record { dims = n; base = b }
raised_flat n b = ty_from (raised n (of_base b)) (record { dims = n; base = b }) (omega arith) refl

raised_more : (n : ℕ) (t : Ty) → array_of (raised n t) ≡ raised (suc n) t
raised_more n t = ty_from (array_of (raised n t)) (raised (suc n) t) (omega arith) refl

chosen_flat : (same both : Bool) (a t flat : Ty) → same ≡ false → both ≡ false → elim same [ true ↦ a | false ↦ elim both [ true ↦ t | false ↦ flat ] ] ≡ flat
chosen_flat same both a t flat e f = rw (e, f) refl

chosen_same : (same both : Bool) (a t flat : Ty) → same ≡ true → elim same [ true ↦ a | false ↦ elim both [ true ↦ t | false ↦ flat ] ] ≡ a
chosen_same same both a t flat e = rw e refl

chosen_deep : (same both : Bool) (a t flat : Ty) → same ≡ false → both ≡ true → elim same [ true ↦ a | false ↦ elim both [ true ↦ t | false ↦ flat ] ] ≡ t
chosen_deep same both a t flat e f = rw (e, f) refl

module _ (image : Image) where
  abbrev deeper : ℕ → Ty → Ty → Ty
  deeper n a b = array_of (common_at image n (component a) (component b))

  -- no level is left
  at_last : (n : ℕ) (a b : Ty) → (0 ≡ depth a) ⊎ (0 ≡ depth b) → ty_eq a b ≡ false → common_at image (suc n) a b ≡ common_flat image a b
  at_last n a b (inl e) other = chosen_flat (ty_eq a b) (joins_by_component a b) a (deeper n a b) (common_flat image a b) other (no_joins a b (inl (sym e)))
  at_last n a b (inr e) other = chosen_flat (ty_eq a b) (joins_by_component a b) a (deeper n a b) (common_flat image a b) other (no_joins a b (inr (sym e)))

  one_less : (m : ℕ) (a b : Ty) → (suc m ≡ depth a) ⊎ (suc m ≡ depth b) → (m ≡ depth (component a)) ⊎ (m ≡ depth (component b))
  one_less m a b (inl e) = inl (let q = inner_depth (is_class_base a.base) a.dims in omega (arith, q, e))
  one_less m a b (inr e) = inr (let q = inner_depth (is_class_base b.base) b.dims in omega (arith, q, e))

  pub by_levels : (m n : ℕ) (a b : Ty) → m ≤ n → m ≤ depth a → m ≤ depth b → (m ≡ depth a) ⊎ (m ≡ depth b) → ty_eq a b ≡ false → common_at image (suc n) a b ≡ raised m (common_flat image (lowered m a) (lowered m b))
  by_levels zero n a b fuel l k last other =
      at_last n a b last other ∙ sym (raised_none (common_flat image (lowered 0 a) (lowered 0 b)) ∙ (λ i. common_flat image (lowered_none a i) (lowered_none b i)))
  by_levels (suc m) zero a b fuel l k last other = absurd (omega arith)
  by_levels (suc m) (suc n) a b fuel l k last other =
      let x = inner_depth (is_class_base a.base) a.dims in
      let y = inner_depth (is_class_base b.base) b.dims in
      let v = depth_within a in
      let w = depth_within b in
      let inner : ty_eq (component a) (component b) ≡ false = apart a b (omega (arith, v, l)) (omega (arith, w, k)) other (ty_eq (component a) (component b)) refl in
      let below : common_at image (suc n) (component a) (component b) ≡ raised m (common_flat image (lowered m (component a)) (lowered m (component b))) =
      by_levels m n (component a) (component b) (omega arith) (omega (arith, x, l)) (omega (arith, y, k)) (one_less m a b last) inner in
      chosen_deep (ty_eq a b) (joins_by_component a b) a (deeper (suc n) a b) (common_flat image a b) other (joins a b (omega (arith, l)) (omega (arith, k))) ∙
      (ap (λ (t : Ty). array_of t) below ∙
      (raised_more m (common_flat image (lowered m (component a)) (lowered m (component b))) ∙
      (λ i. raised (suc m) (common_flat image (lowered_more m a i) (lowered_more m b i)))))

  -- as many levels as both have
  pub super_by_levels : (m : ℕ) (a b : Ty) → m ≤ depth a → m ≤ depth b → (m ≡ depth a) ⊎ (m ≡ depth b) → ty_eq a b ≡ false → common_super image a b ≡ raised m (common_flat image (lowered m a) (lowered m b))
  unfolding common_super
  super_by_levels m a b l k last other = let v = depth_within a in by_levels m a.dims a b (omega (arith, v, l)) l k last other

  pub super_same : (a b : Ty) → ty_eq a b ≡ true → common_super image a b ≡ a
  unfolding common_super
  super_same a b e = chosen_same (ty_eq a b) (joins_by_component a b) a (deeper a.dims a b) (common_flat image a b) e
