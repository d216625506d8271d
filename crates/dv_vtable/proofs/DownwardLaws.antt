-- Going up from a class, each behind what stands above it, and numbers that are added each once.
use Rattle.std.specs.Prelude.{◌≡◌, ℕ, zero, suc, ◌<◌, Bool, true, false, ◌&&◌, List, [], ◌∷◌, ◌++◌, flat_map, ◌⊎◌}
use Rattle.std.specs.List.{list_all}
use Rattle.std.proofs.Common.{refl, sym, ap, subst, ◌∙◌, inl, inr, ⊎_elim, arith}
use Rattle.dv_defs.specs.Order.{has_number}
use Rattle.dv_defs.specs.Prior.{downward}
use Rattle.law_linking.proofs.Reach.{number_first, number_later, number_cases}
use Rattle.law_linking.proofs.Upward.{has_left, has_right, has_cases, has_in_flat, flat_gives}
use Rattle.dv_hier.specs.Interfaces.{added}
use Rattle.dv_vtable.specs.Priors.{ends_in}

-- ---- what holds of each number of a list

pub all_has : (p : ℕ → Bool) (cs : List ℕ) → ((c : ℕ) → has_number c cs ≡ true → p c ≡ true) → list_all p cs ≡ true
all_has p [] holds = refl
all_has p (c ∷ cs) holds = (λ j. holds c (number_first c cs) j && all_has p cs (λ d there. holds d (number_later d c cs there)) j)

both : (a b : Bool) → (a && b) ≡ true → (a ≡ true) × (b ≡ true)
both true b hold = (refl, hold)
both false b hold = absurd (cc)

pub all_gives : (p : ℕ → Bool) (cs : List ℕ) → list_all p cs ≡ true → (c : ℕ) → has_number c cs ≡ true → p c ≡ true
all_gives p [] all c there = absurd (cc)
all_gives p (d ∷ ds) all c there =
    let parts = both (p d) (list_all p ds) all in
    ⊎_elim (λ same. subst (λ n. p n ≡ true) same parts.0) (λ later. all_gives p ds parts.1 c later) (number_cases c d ds there)

-- ---- numbers that are added

-- those that are there add nothing
pub added_there : (ys xs : List ℕ) → ((d : ℕ) → has_number d ys ≡ true → has_number d xs ≡ true) → added xs ys ≡ xs
added_there [] xs within = refl
added_there (y ∷ ys) xs within =
    ap (λ (b : Bool). elim b as (λ _. List ℕ) [ true ↦ added xs ys | false ↦ added (xs ++ y ∷ []) ys ]) (within y (number_first y ys)) ∙
    added_there ys xs (λ d has. within d (number_later d y ys has))

pub added_cases : (d : ℕ) (ys xs : List ℕ) → has_number d (added xs ys) ≡ true → (has_number d xs ≡ true) ⊎ (has_number d ys ≡ true)
added_cases d [] xs = λ has. inl has
added_cases d (y ∷ ys) xs = here (has_number y xs) (added_cases d ys xs) (added_cases d ys (xs ++ y ∷ []))
  where
    here : (b : Bool) → (has_number d (added xs ys) ≡ true → (has_number d xs ≡ true) ⊎ (has_number d ys ≡ true))
        → (has_number d (added (xs ++ y ∷ []) ys) ≡ true → (has_number d (xs ++ y ∷ []) ≡ true) ⊎ (has_number d ys ≡ true))
        → has_number d (elim b as (λ _. List ℕ) [ true ↦ added xs ys | false ↦ added (xs ++ y ∷ []) ys ]) ≡ true → (has_number d xs ≡ true) ⊎ (has_number d (y ∷ ys) ≡ true)
    here true there absent has = ⊎_elim (λ old. inl old) (λ later. inr (number_later d y ys later)) (there has)
    here false there absent has =
        ⊎_elim
        (λ old. ⊎_elim (λ before. inl before) (λ last. inr (has_left d (y ∷ []) ys last)) (has_cases d xs (y ∷ []) old))
        (λ later. inr (number_later d y ys later))
        (absent has)

pub added_keeps : (d : ℕ) (ys xs : List ℕ) → has_number d xs ≡ true → has_number d (added xs ys) ≡ true
added_keeps d [] xs = λ has. has
added_keeps d (y ∷ ys) xs = here (has_number y xs) (added_keeps d ys xs) (added_keeps d ys (xs ++ y ∷ []))
  where
    here : (b : Bool) → (has_number d xs ≡ true → has_number d (added xs ys) ≡ true) → (has_number d (xs ++ y ∷ []) ≡ true → has_number d (added (xs ++ y ∷ []) ys) ≡ true)
        → has_number d xs ≡ true → has_number d (elim b as (λ _. List ℕ) [ true ↦ added xs ys | false ↦ added (xs ++ y ∷ []) ys ]) ≡ true
    here true there absent has = there has
    here false there absent has = absent (has_left d xs (y ∷ []) has)

pub added_takes : (d : ℕ) (ys xs : List ℕ) → has_number d ys ≡ true → has_number d (added xs ys) ≡ true
added_takes d [] xs has = absurd (cc)
added_takes d (y ∷ ys) xs has =
    ⊎_elim
    (λ same. subst (λ n. has_number n (added xs (y ∷ ys)) ≡ true) same (first (has_number y xs) refl))
    (λ later. behind (has_number y xs) (added_takes d ys xs later) (added_takes d ys (xs ++ y ∷ []) later))
    (number_cases d y ys has)
  where
    first : (b : Bool) → has_number y xs ≡ b → has_number y (elim b as (λ _. List ℕ) [ true ↦ added xs ys | false ↦ added (xs ++ y ∷ []) ys ]) ≡ true
    first true there = added_keeps y ys xs there
    first false absent = added_keeps y ys (xs ++ y ∷ []) (has_right y xs (y ∷ []) (number_first y []))

    behind : (b : Bool) → has_number d (added xs ys) ≡ true → has_number d (added (xs ++ y ∷ []) ys) ≡ true → has_number d (elim b as (λ _. List ℕ) [ true ↦ added xs ys | false ↦ added (xs ++ y ∷ []) ys ]) ≡ true
    behind true there absent = there
    behind false there absent = absent

-- ---- going up

module _ (up : ℕ → List ℕ) where
  -- what passes on from a class to those above it
  pub down_keeps : (P : ℕ → Type 0) → ((c d : ℕ) → P c → has_number d (up c) ≡ true → P d) → (n c d : ℕ) → P c → has_number d (downward up n c) ≡ true → P d
  down_keeps P passes zero c d holds has = absurd (cc)
  down_keeps P passes (suc n) c d holds has =
      ⊎_elim
      (λ higher. flat_gives (downward up n) d (up c) (λ e there within. down_keeps P passes n e d (passes c e holds there) within) higher)
      (λ last. ⊎_elim (λ same. subst P same holds) (λ none. absurd (cc)) (number_cases d c [] last))
      (has_cases d (flat_map (downward up n) (up c)) (c ∷ []) has)

  down_itself : (n c : ℕ) → ends_in up n c ≡ true → has_number c (downward up n c) ≡ true
  down_itself zero c ends = absurd (cc)
  down_itself (suc n) c ends = has_right c (flat_map (downward up n) (up c)) (c ∷ []) (number_first c [])

  -- with steps enough, what stands above one of these is one of them
  pub down_closed : (n c e d : ℕ) → ends_in up n c ≡ true → has_number e (downward up n c) ≡ true → has_number d (up e) ≡ true → has_number d (downward up n c) ≡ true
  down_closed zero c e d ends has above = absurd (cc)
  down_closed (suc n) c e d ends has above =
      has_left d (flat_map (downward up n) (up c)) (c ∷ [])
      (⊎_elim
      (λ higher.
      flat_gives (downward up n) e (up c)
      (λ i there within. has_in_flat (downward up n) d i (up c) there (down_closed n i e d (all_gives (ends_in up n) (up c) ends i there) within above)) higher)
      (λ last. ⊎_elim (λ same. own (subst (λ (x : ℕ). has_number d (up x) ≡ true) (sym same) above)) (λ none. absurd (cc)) (number_cases e c [] last))
      (has_cases e (flat_map (downward up n) (up c)) (c ∷ []) has))
    where
      own : has_number d (up c) ≡ true → has_number d (flat_map (downward up n) (up c)) ≡ true
      own there = has_in_flat (downward up n) d d (up c) there (down_itself n d (all_gives (ends_in up n) (up c) ends d there))

  -- more steps than the number of a class are enough, where the numbers fall
  pub ends_by : (rank : ℕ → ℕ) → ((c d : ℕ) → has_number d (up c) ≡ true → rank d < rank c) → (n c : ℕ) → rank c < n → ends_in up n c ≡ true
  ends_by rank falls zero c less = absurd (omega arith)
  ends_by rank falls (suc n) c less =
      all_has (ends_in up n) (up c) (λ d there. let lower = falls c d there in ends_by rank falls n d (omega arith))
