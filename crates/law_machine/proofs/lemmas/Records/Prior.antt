-- What is initialised before a class is a class of the image.
use Rattle.std.proofs.Common.{◌⊎◌, inl, inr, ◌≡◌, ◌<◌, ℕ, zero, suc, Bool, true, false, cond, List, [], ◌∷◌, ◌++◌, length, Option, Some, None, refl, sym, ap, subst, ◌∙◌}
use Rattle.std.specs.Prelude.{filter, flat_map, option_to_list}
use Rattle.dv_defs.specs.Images.{Image}
use Rattle.dv_defs.specs.Pools.{parent_at, is_interface}
use Rattle.dv_defs.specs.Order.{has_number}
use Rattle.dv_defs.specs.LookUp.{interfaces_at}
use Rattle.dv_defs.specs.Prior.{declares_default, downward, interfaces_before, prior_at}
use Rattle.law_types.specs.Hierarchy.{IsHierarchy}
use Rattle.law_linking.proofs.Reach.{number_first, number_later, number_cases}
use Rattle.law_linking.proofs.Upward.{flat_gives, has_cases, interface_is_above, parent_is_above}
use Rattle.law_linking.proofs.OnceNumbers.{has_once}

-- what is left of numbers was among them
kept_number : (test : ℕ → Bool) (d : ℕ) (xs : List ℕ) → has_number d (filter test xs) ≡ true → has_number d xs ≡ true
kept_number test d [] has = absurd (cc)
kept_number test d (x ∷ xs) has = by (test x) (λ h. number_later d x xs (kept_number test d xs h)) has
  where
    one : (has_number d (filter test xs) ≡ true → has_number d (x ∷ xs) ≡ true) → (x ≡ d) ⊎ (has_number d (filter test xs) ≡ true) → has_number d (x ∷ xs) ≡ true
    one later (inl same) = subst (λ e. has_number e (x ∷ xs) ≡ true) same (number_first x xs)
    one later (inr h) = later h

    by : (b : Bool) → (has_number d (filter test xs) ≡ true → has_number d (x ∷ xs) ≡ true) → has_number d (cond b (x ∷ filter test xs) (filter test xs)) ≡ true → has_number d (x ∷ xs) ≡ true
    by true later h = one later (number_cases d x (filter test xs) h)
    by false later h = later h

module _ (image : Image) (h : IsHierarchy image) where
  -- what stands downward of a class that is there
  downward_inside : (n c d : ℕ) → c < length image.classes → has_number d (downward (interfaces_at image) n c) ≡ true → d < length image.classes
  downward_inside zero c d within has = absurd (cc)
  downward_inside (suc n) c d within has =
      by
      (λ above. flat_gives (downward (interfaces_at image) n) d (interfaces_at image c) (λ e at. downward_inside n e d (h.inside c e (interface_is_above image c e at))) above)
      (has_cases d (flat_map (downward (interfaces_at image) n) (interfaces_at image c)) (c ∷ []) has)
    where
      by_own : (c ≡ d) ⊎ (has_number d [] ≡ true) → d < length image.classes
      by_own (inl same) = subst (λ k. k < length image.classes) same within
      by_own (inr none) = absurd (cc)

      by : (has_number d (flat_map (downward (interfaces_at image) n) (interfaces_at image c)) ≡ true → d < length image.classes)
          → (has_number d (flat_map (downward (interfaces_at image) n) (interfaces_at image c)) ≡ true) ⊎ (has_number d (c ∷ []) ≡ true) → d < length image.classes
      by rest (inl above) = rest above
      by rest (inr own) = by_own (number_cases d c [] own)

  before_inside : (c d : ℕ) → has_number d (interfaces_before image c) ≡ true → d < length image.classes
  before_inside c d has =
      flat_gives (downward (interfaces_at image) (length image.classes)) d (interfaces_at image c)
      (λ e at. downward_inside (length image.classes) e d (h.inside c e (interface_is_above image c e at)))
      (sym (has_once d (flat_map (downward (interfaces_at image) (length image.classes)) (interfaces_at image c))) ∙ has)

  pub prior_inside : (c d : ℕ) → has_number d (prior_at image c) ≡ true → d < length image.classes
  prior_inside c d has = by (is_interface image c) has
    where
      by_parent : (o : Option ℕ) → parent_at image c ≡ o → has_number d (option_to_list o) ≡ true → d < length image.classes
      by_parent None e has = absurd (cc)
      by_parent (Some p) e has = of_one (number_cases d p [] has)
        where
          of_one : (p ≡ d) ⊎ (has_number d [] ≡ true) → d < length image.classes
          of_one (inl same) = h.inside c d (parent_is_above image c d (e ∙ ap Some same))
          of_one (inr none) = absurd (cc)

      of_class : (has_number d (option_to_list (parent_at image c)) ≡ true) ⊎ (has_number d (filter (declares_default image) (interfaces_before image c)) ≡ true) → d < length image.classes
      of_class (inl parent) = by_parent (parent_at image c) refl parent
      of_class (inr interface) = before_inside c d (kept_number (declares_default image) d (interfaces_before image c) interface)

      by : (b : Bool) → has_number d (elim b as (λ _. List ℕ) [ true ↦ [] | false ↦ option_to_list (parent_at image c) ++ filter (declares_default image) (interfaces_before image c) ]) ≡ true → d < length image.classes
      by true has = absurd (cc)
      by false has = of_class (has_cases d (option_to_list (parent_at image c)) (filter (declares_default image) (interfaces_before image c)) has)
