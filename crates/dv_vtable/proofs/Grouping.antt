-- Items that are put one by one into a list for each key: the keys stand in the order of their first items.
use Rattle.std.proofs.Common.{◌≡◌, Bool, true, false, cond, not, ◌||◌, List, [], ◌∷◌, ◌++◌, map, filter, refl, sym, ap, ◌∙◌, append_assoc, append-nil}
use Rattle.std.specs.Prelude.{if◌then◌else◌}
use Rattle.std.specs.List.{list_any}
use Rattle.std.specs.Cmp.{IsEquivalence}
use Rattle.std.proofs.lemmas.List.{map-append}
use Rattle.std.proofs.lemmas.List.Elements.{filter-append}
use Rattle.dv_vtable.specs.Offers.{offer_entry}
use Rattle.dv_vtable.proofs.Inserting.{neither, like, IsApart, same_like, apart_filtered}

module _ {X K : Type 0} (eq : K → K → Bool) (key : X → K) where
  -- each of some items whose key no earlier one has
  abbrev pub firsts : List X → List X
  firsts [] = []
  firsts (x ∷ xs) = x ∷ filter (λ y. not (like eq key x y)) (firsts xs)

module _ {X K V : Type 0} (eq : K → K → Bool) (key : X → K) (id : X → V) where
  -- the values of a key's items
  abbrev pub group : List X → X → List V
  group xs x = map id (filter (like eq key x) xs)

  abbrev pub groups : List X → List (K × List V)
  groups xs = map (λ x. (key x, group xs x)) (firsts eq key xs)

  -- the lists after items are put in
  abbrev pub grouped : List (K × List V) → List X → List (K × List V)
  grouped es [] = es
  grouped es (x ∷ xs) = grouped (offer_entry eq es (key x) (id x)) xs

-- ---- first items

module _ {X K : Type 0} (eq : K → K → Bool) (laws : IsEquivalence eq) (key : X → K) where
  abbrev unlike : X → X → Bool
  unlike x y = not (like eq key x y)

  -- whether the last item is the first of its key
  abbrev last_if : Bool → X → List X
  last_if there x = cond there [] (x ∷ [])

  kept_last : (x y : X) (there : Bool) → filter (unlike y) (last_if there x) ≡ last_if (like eq key x y || there) x
  kept_last x y true = by (like eq key x y)
    where
      by : (b : Bool) → [] ≡ last_if (b || true) x
      by true = refl
      by false = refl
  kept_last x y false = ap (λ b. cond (not b) (x ∷ []) []) (laws.symm (key y) (key x)) ∙ by (like eq key x y)
    where
      by : (b : Bool) → cond (not b) (x ∷ []) [] ≡ last_if (b || false) x
      by true = refl
      by false = refl

  firsts_last : (xs : List X) (x : X) → firsts eq key (xs ++ x ∷ []) ≡ firsts eq key xs ++ last_if (list_any (like eq key x) xs) x
  firsts_last [] x = refl
  firsts_last (y ∷ xs) x =
      ap (λ ys. y ∷ ys)
      (ap (filter (unlike y)) (firsts_last xs x)
      ∙ (filter-append (unlike y) (firsts eq key xs) (last_if (list_any (like eq key x) xs) x)
      ∙ ap (λ ys. filter (unlike y) (firsts eq key xs) ++ ys) (kept_last x y (list_any (like eq key x) xs))))

  none_like : (x : X) (ys : List X) → list_any (like eq key x) (filter (unlike x) ys) ≡ false
  none_like x [] = refl
  none_like x (y ∷ ys) = by (like eq key x y) refl (none_like x ys)
    where
      by : (b : Bool) → like eq key x y ≡ b → list_any (like eq key x) (filter (unlike x) ys) ≡ false
          → list_any (like eq key x) (cond (not b) (y ∷ filter (unlike x) ys) (filter (unlike x) ys)) ≡ false
      by true is rest = rest
      by false is rest = ap (λ b. b || list_any (like eq key x) (filter (unlike x) ys)) is ∙ rest

  pub firsts_apart : (xs : List X) → IsApart eq key (firsts eq key xs)
  firsts_apart [] = tt
  firsts_apart (x ∷ xs) = (none_like x (firsts eq key xs), apart_filtered eq key (unlike x) (firsts eq key xs) (firsts_apart xs))

  -- items that are unlike another may be left out
  any_without : (x y : X) → like eq key x y ≡ false → (zs : List X) → list_any (like eq key x) (filter (unlike y) zs) ≡ list_any (like eq key x) zs
  any_without x y other [] = refl
  any_without x y other (z ∷ zs) = by (like eq key y z) refl (any_without x y other zs)
    where
      by : (b : Bool) → like eq key y z ≡ b → list_any (like eq key x) (filter (unlike y) zs) ≡ list_any (like eq key x) zs
          → list_any (like eq key x) (cond (not b) (z ∷ filter (unlike y) zs) (filter (unlike y) zs)) ≡ (like eq key x z || list_any (like eq key x) zs)
      by true is rest =
          let apart : like eq key x z ≡ false =
          laws.symm (key x) (key z) ∙ (sym (laws.congr (key y) (key z) (key x) is) ∙ (laws.symm (key y) (key x) ∙ other)) in
          rest ∙ sym (ap (λ b. b || list_any (like eq key x) zs) apart)
      by false is rest = ap (λ b. like eq key x z || b) rest

  firsts_any : (xs : List X) (x : X) → list_any (like eq key x) (firsts eq key xs) ≡ list_any (like eq key x) xs
  firsts_any [] x = refl
  firsts_any (y ∷ xs) x = by (like eq key x y) refl (firsts_any xs x)
    where
      by : (b : Bool) → like eq key x y ≡ b → list_any (like eq key x) (firsts eq key xs) ≡ list_any (like eq key x) xs → (b || list_any (like eq key x) (filter (unlike y) (firsts eq key xs))) ≡ (b || list_any (like eq key x) xs)
      by true is rest = refl
      by false is rest = any_without x y is (firsts eq key xs) ∙ rest

  none_kept : (x : X) (xs : List X) → list_any (like eq key x) xs ≡ false → filter (like eq key x) xs ≡ []
  none_kept x [] none = refl
  none_kept x (y ∷ xs) none =
      let parts = neither (like eq key x y) (list_any (like eq key x) xs) none in
      ap (λ b. cond b (y ∷ filter (like eq key x) xs) (filter (like eq key x) xs)) parts.0 ∙ none_kept x xs parts.1

-- ---- lists by key

module _ {X K V : Type 0} (eq : K → K → Bool) (laws : IsEquivalence eq) (key : X → K) (id : X → V) where
  -- a value that is added where the keys are alike
  abbrev added_if : Bool → V → List V
  added_if b v = cond b (v ∷ []) []

  unlike_same : (x : X) (v : V) (of : X → List V) (ys : List X) → list_any (like eq key x) ys ≡ false
      → map {B = K × List V} (λ y. (key y, of y)) ys ≡ map (λ y. (key y, of y ++ added_if (like eq key y x) v)) ys
  unlike_same x v of [] none = refl
  unlike_same x v of (y ∷ ys) none =
      let parts = neither (like eq key x y) (list_any (like eq key x) ys) none in
      let other : like eq key y x ≡ false = laws.symm (key y) (key x) ∙ parts.0 in
      let here : of y ≡ of y ++ added_if (like eq key y x) v = sym (append-nil (of y)) ∙ ap (λ b. of y ++ added_if b v) (sym other) in
      let rest = unlike_same x v of ys parts.1 in
      λ j. (key y, here j) ∷ rest j

  -- one more value under a key, where no two items have one
  offered_last : (x : X) (v : V) (of : X → List V) (ys : List X) → IsApart eq key ys
      → offer_entry eq (map (λ y. (key y, of y)) ys) (key x) v
      ≡ map (λ y. (key y, of y ++ added_if (like eq key y x) v)) ys ++ cond (list_any (like eq key x) ys) [] ((key x, v ∷ []) ∷ [])
  offered_last x v of [] apart = refl
  offered_last x v of (y ∷ ys) apart = by (like eq key x y) refl (offered_last x v of ys apart.1)
    where
      by : (b : Bool) → like eq key x y ≡ b
          → offer_entry eq (map (λ y. (key y, of y)) ys) (key x) v
          ≡ map (λ y. (key y, of y ++ added_if (like eq key y x) v)) ys ++ cond (list_any (like eq key x) ys) [] ((key x, v ∷ []) ∷ [])
          → (if b then (key y, of y ++ v ∷ []) ∷ map (λ y. (key y, of y)) ys else (key y, of y) ∷ offer_entry eq (map (λ y. (key y, of y)) ys) (key x) v)
          ≡ (key y, of y ++ added_if (like eq key y x) v) ∷ map (λ y. (key y, of y ++ added_if (like eq key y x) v)) ys ++ cond (b || list_any (like eq key x) ys) [] ((key x, v ∷ []) ∷ [])
      by true is rest =
          let none : list_any (like eq key x) ys ≡ false = ap (λ p. list_any p ys) (same_like eq laws key x y is) ∙ apart.0 in
          let back : true ≡ like eq key y x = sym (laws.symm (key y) (key x) ∙ is) in
          (λ j. (key y, of y ++ added_if (back j) v) ∷ unlike_same x v of ys none j)
          ∙ sym (append-nil ((key y, of y ++ added_if (like eq key y x) v) ∷ map (λ y. (key y, of y ++ added_if (like eq key y x) v)) ys))
      by false is rest =
          let other : false ≡ like eq key y x = sym (laws.symm (key y) (key x) ∙ is) in
          λ j. (key y, (sym (append-nil (of y)) ∙ ap (λ b. of y ++ added_if b v) other) j) ∷ rest j

  group_last : (xs : List X) (x y : X) → group eq key id (xs ++ x ∷ []) y ≡ group eq key id xs y ++ added_if (like eq key y x) (id x)
  group_last xs x y =
      ap (map id) (filter-append (like eq key y) xs (x ∷ []))
      ∙ (map-append id (filter (like eq key y) xs) (filter (like eq key y) (x ∷ []))
      ∙ ap (λ vs. group eq key id xs y ++ vs) (by (like eq key y x)))
    where
      by : (b : Bool) → map id (cond b (x ∷ []) []) ≡ added_if b (id x)
      by true = refl
      by false = refl

  own_last : (xs : List X) (x : X) → list_any (like eq key x) xs ≡ false → group eq key id (xs ++ x ∷ []) x ≡ id x ∷ []
  own_last xs x none =
      group_last xs x x
      ∙ (ap (λ ys. map id ys ++ added_if (like eq key x x) (id x)) (none_kept eq laws key x xs none)
      ∙ ap (λ b. added_if b (id x)) (laws.refl (key x)))

  groups_last : (xs : List X) (x : X) → groups eq key id (xs ++ x ∷ []) ≡ offer_entry eq (groups eq key id xs) (key x) (id x)
  groups_last xs x =
      ap (map {B = K × List V} (λ y. (key y, group eq key id (xs ++ x ∷ []) y))) (firsts_last eq laws key xs x)
      ∙ (map-append {B = K × List V} (λ y. (key y, group eq key id (xs ++ x ∷ []) y)) (firsts eq key xs) (last_if eq laws key (list_any (like eq key x) xs) x)
      ∙ ((λ j. map {B = K × List V} (λ y. (key y, group_last xs x y j)) (firsts eq key xs) ++ by (list_any (like eq key x) xs) refl j)
      ∙ (ap (λ b. map {B = K × List V} (λ y. (key y, group eq key id xs y ++ added_if (like eq key y x) (id x))) (firsts eq key xs) ++ cond b [] ((key x, id x ∷ []) ∷ [])) (sym (firsts_any eq laws key xs x))
      ∙ sym (offered_last x (id x) (group eq key id xs) (firsts eq key xs) (firsts_apart eq laws key xs)))))
    where
      by : (b : Bool) → list_any (like eq key x) xs ≡ b
          → map {B = K × List V} (λ y. (key y, group eq key id (xs ++ x ∷ []) y)) (last_if eq laws key b x) ≡ cond b [] ((key x, id x ∷ []) ∷ [])
      by true is = refl
      by false is = ap (λ vs. (key x, vs) ∷ []) (own_last xs x is)

  grouped_from : (before xs : List X) → grouped eq key id (groups eq key id before) xs ≡ groups eq key id (before ++ xs)
  grouped_from before [] = ap (groups eq key id) (sym (append-nil before))
  grouped_from before (x ∷ xs) =
      ap (λ es. grouped eq key id es xs) (sym (groups_last before x))
      ∙ (grouped_from (before ++ x ∷ []) xs ∙ ap (groups eq key id) (append_assoc before (x ∷ []) xs))

  -- what items that are put in leave: for each key, its items in order
  pub grouped_is : (xs : List X) → grouped eq key id [] xs ≡ groups eq key id xs
  grouped_is xs = grouped_from [] xs
