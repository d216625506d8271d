-- Chains of superclasses: what is properly above a class has a shorter one.
use Rattle.std.proofs.Common.{◌≡◌, ◌⊎◌, inl, inr, ℕ, zero, suc, ◌<◌, ◌≤◌, List, [], ◌∷◌, length, true, Option, Some, None, refl, sym, ap, ◌∙◌, subst, arith}
use Rattle.dv_defs.specs.Images.{Image}
use Rattle.dv_defs.specs.Names.{object_name}
use Rattle.dv_defs.specs.Pools.{class_named, name_at, parent_at, walk, supers}
use Rattle.dv_defs.specs.Order.{extends}
use Rattle.law_types.specs.Hierarchy.{IsHierarchy}
use Rattle.law_types.proofs.Facts.{no}
use Rattle.law_types.proofs.Walks.{up, up_is, is_above}

-- how many classes a walk passes
abbrev pub depth : Image → ℕ → ℕ → ℕ
depth image n c = length (walk image n (Some c))

pub walk_short : (image : Image) (n : ℕ) (o : Option ℕ) → length (walk image n o) ≤ n
walk_short image zero o = omega arith
walk_short image (suc n) None = omega arith
walk_short image (suc n) (Some c) = (let later = walk_short image n (parent_at image c) in omega (arith, later))

walk_none : (image : Image) (n : ℕ) (o : Option ℕ) → o ≡ None → walk image n o ≡ []
walk_none image zero o e = refl
walk_none image (suc n) None e = refl
walk_none image (suc n) (Some c) e = absurd (cc)

module _ (image : Image) (h : IsHierarchy image) where
  -- a walk with fuel above the place of its begin is whole
  walk_whole : (n k c : ℕ) → h.place c < n → h.place c < k → walk image n (Some c) ≡ walk image k (Some c)
  walk_whole zero k c l m = absurd (omega arith)
  walk_whole (suc n) zero c l m = absurd (omega arith)
  walk_whole (suc n) (suc k) c l m = ap (λ (cs : List ℕ). c ∷ cs) (by_parent (walk_whole n k) (parent_at image c) refl)
    where
      by_parent : ((p : ℕ) → h.place p < n → h.place p < k → walk image n (Some p) ≡ walk image k (Some p)) → (o : Option ℕ) → parent_at image c ≡ o → walk image n o ≡ walk image k o
      by_parent above None e = walk_none image n None refl ∙ sym (walk_none image k None refl)
      by_parent above (Some p) e = (let below = h.rises c p (is_above image c p e) in above p (omega (arith, below, l)) (omega (arith, below, m)))

  -- the chain of a class is one longer than that of its superclass
  one_more : (n c p : ℕ) → parent_at image c ≡ Some p → h.place c < n → depth image n c ≡ suc (depth image n p)
  one_more zero c p e l = absurd (omega arith)
  one_more (suc n) c p e l =
      let below = h.rises c p (is_above image c p e) in
      let whole : walk image n (Some p) ≡ walk image (suc n) (Some p) = walk_whole n (suc n) p (omega (arith, below, l)) (omega (arith, below, l)) in
      ap suc (ap (λ (o : Option ℕ). length (walk image n o)) e ∙ ap (λ (cs : List ℕ). length cs) whole)

  higher_short : (n c d p : ℕ) → parent_at image c ≡ Some p → h.place c < n → (p ≡ d) ⊎ (depth image n d < depth image n p) → depth image n d < depth image n c
  higher_short n c d p e l (inl same) = (let m = one_more n c p e l in let q : depth image n p ≡ depth image n d = ap (depth image n) same in omega (arith, m, q))
  higher_short n c d p e l (inr less) = (let m = one_more n c p e l in omega (arith, m, less))

  up_short : (m n d c : ℕ) → up image m d c ≡ true → h.place c < n → (c ≡ d) ⊎ (depth image n d < depth image n c)
  up_short zero n d c u l = no u
  up_short (suc m) n d c u l = elim (up_is image m d c u) [
    | inl here ↦ inl here
    | inr step ↦ inr (let below = h.rises c step.0 (is_above image c step.0 step.1) in higher_short n c d step.0 step.1 l (up_short m n d step.0 step.2 (omega (arith, below, l))))
  ]

  -- what extends another class has a longer chain
  pub extends_short : (c d : ℕ) → c < length image.classes → extends image c d ≡ true → (c ≡ d) ⊎ (length (supers image d) < length (supers image c))
  extends_short c d i u = up_short (length image.classes) (length image.classes) d c u (h.bounded c i)

  -- each class but Object has a longer chain than Object
  object_short_from : (m n o c : ℕ) → class_named image object_name ≡ Some o → c < length image.classes → h.place c < m → h.place c < n → (c ≡ o) ⊎ (depth image n o < depth image n c)
  object_short_from zero n o c e i l k = absurd (omega arith)
  object_short_from (suc m) n o c e i l k = by_parent (object_short_from m n o) (parent_at image c) refl
    where
      by_parent :
          ((p : ℕ) → class_named image object_name ≡ Some o → p < length image.classes → h.place p < m → h.place p < n → (p ≡ o) ⊎ (depth image n o < depth image n p)) →
          (q : Option ℕ) → parent_at image c ≡ q → (c ≡ o) ⊎ (depth image n o < depth image n c)
      by_parent above None q =
          let named : name_at image c ≡ object_name = h.root c i q in
          let found : class_named image object_name ≡ Some c = subst (λ (x : List ℕ). class_named image x ≡ Some c) named (h.once c i) in
          inl (cc)
      by_parent above (Some p) q =
          let a = is_above image c p q in
          let below = h.rises c p a in
          inr (higher_short n c o p q k (above p e (h.inside c p a) (omega (arith, below, l)) (omega (arith, below, k))))

  pub object_short : (o c : ℕ) → class_named image object_name ≡ Some o → c < length image.classes → (c ≡ o) ⊎ (length (supers image o) < length (supers image c))
  object_short o c e i = object_short_from (length image.classes) (length image.classes) o c e i (h.bounded c i) (h.bounded c i)
