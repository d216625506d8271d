-- The entries of a map into which items are put one by one. A key that is there keeps its place, and a new one goes last.
use Rattle.std.proofs.Common.{◌≡◌, Bool, true, false, cond, not, ◌&&◌, ◌||◌, List, [], ◌∷◌, ◌++◌, map, filter, Some, None, refl, sym, ap, subst, ◌∙◌, append_assoc, append-nil}
use Rattle.std.specs.List.{list_any, find}
use Rattle.std.specs.Cmp.{IsEquivalence}
use Rattle.std.proofs.lemmas.List.Folds.{list_any-append}
use Rattle.std.proofs.lemmas.List.{map-append}
use Rattle.dv_vtable.specs.Chains.{insert_entry}

-- two alternatives, none of which holds
pub neither : (b h : Bool) → (b || h) ≡ false → (b ≡ false) × (h ≡ false)
neither true h none = absurd (cc)
neither false h none = (refl, none)

or_no : (b : Bool) → (b || (false || false)) ≡ b
or_no true = refl
or_no false = refl

none_passes : {X : Type 0} (p : X → Bool) (xs : List X) → list_any p xs ≡ false → find p xs ≡ None
none_passes p [] none = refl
none_passes p (x ∷ xs) none =
    let parts = neither (p x) (list_any p xs) none in
    ap (λ b. cond b (Some x) (find p xs)) parts.0 ∙ none_passes p xs parts.1

-- ---- items with keys

module _ {X K : Type 0} (eq : K → K → Bool) (key : X → K) where
  -- an item has the key of another
  abbrev pub like : X → X → Bool
  like x n = eq (key x) (key n)

  -- no item has the key of this one
  abbrev pub is_new : List X → X → Bool
  is_new xs x = not (list_any (like x) xs)

  -- no two items have one key
  abbrev pub IsApart : List X → Type 0
  IsApart [] = Unit {0}
  IsApart (x ∷ xs) = (list_any (like x) xs ≡ false) × IsApart xs

module _ {X K : Type 0} (eq : K → K → Bool) (laws : IsEquivalence eq) (key : X → K) where
  pub same_like : (x m : X) → like eq key x m ≡ true → like eq key x ≡ like eq key m
  same_like x m is = λ j n. laws.congr (key x) (key m) (key n) is j

  any_grown : (x : X) (xs : List X) (y : X) → like eq key x y ≡ false → list_any (like eq key y) (xs ++ x ∷ []) ≡ list_any (like eq key y) xs
  any_grown x xs y other =
      let back : like eq key y x ≡ false = laws.symm (key y) (key x) ∙ other in
      list_any-append (like eq key y) xs (x ∷ [])
      ∙ (ap (λ b. list_any (like eq key y) xs || (b || false)) back ∙ or_no (list_any (like eq key y) xs))

  filter_grown : (x : X) (xs ys : List X) → list_any (like eq key x) ys ≡ false
      → filter (is_new eq key (xs ++ x ∷ [])) ys ≡ filter (is_new eq key xs) ys
  filter_grown x xs [] none = refl
  filter_grown x xs (y ∷ ys) none =
      let parts = neither (like eq key x y) (list_any (like eq key x) ys) none in
      let head : is_new eq key (xs ++ x ∷ []) y ≡ is_new eq key xs y = ap not (any_grown x xs y parts.0) in
      let rest = filter_grown x xs ys parts.1 in
      λ j. cond (head j) (y ∷ rest j) (rest j)

  apart_end : (xs : List X) (x : X) → IsApart eq key xs → list_any (like eq key x) xs ≡ false → IsApart eq key (xs ++ x ∷ [])
  apart_end [] x apart none = (refl, tt)
  apart_end (m ∷ xs) x apart none =
      let parts = neither (like eq key x m) (list_any (like eq key x) xs) none in
      (any_grown x xs m parts.0 ∙ apart.0, apart_end xs x apart.1 parts.1)

  none_found : (ys : List X) (m x : X) → like eq key x m ≡ true → list_any (like eq key x) ys ≡ false → find (like eq key m) ys ≡ None
  none_found ys m x is none = ap (λ p. find p ys) (sym (same_like x m is)) ∙ none_passes (like eq key x) ys none

  -- new items with an item more before them
  grown : (x : X) (xs ys : List X) → list_any (like eq key x) ys ≡ false → list_any (like eq key x) xs ≡ false
      → (xs ++ x ∷ []) ++ filter (is_new eq key (xs ++ x ∷ [])) ys ≡ xs ++ filter (is_new eq key xs) (x ∷ ys)
  grown x xs ys none new =
      let kept : filter (is_new eq key xs) (x ∷ ys) ≡ x ∷ filter (is_new eq key xs) ys =
      ap (λ b. cond (not b) (x ∷ filter (is_new eq key xs) ys) (filter (is_new eq key xs) ys)) new in
      append_assoc xs (x ∷ []) (filter (is_new eq key (xs ++ x ∷ [])) ys)
      ∙ (ap (λ zs. xs ++ x ∷ zs) (filter_grown x xs ys none) ∙ ap (λ zs. xs ++ zs) (sym kept))

  left_out : (x : X) (xs ys : List X) → list_any (like eq key x) xs ≡ true
      → filter (is_new eq key xs) ys ≡ filter (is_new eq key xs) (x ∷ ys)
  left_out x xs ys there = ap (λ b. cond (not b) (x ∷ filter (is_new eq key xs) ys) (filter (is_new eq key xs) ys)) (sym there)

-- no two of the items are alike after new ones are added
module _ {X K : Type 0} (eq : K → K → Bool) (laws : IsEquivalence eq) (key : X → K) where
  apart_step : (x : X) (ys xs : List X) → IsApart eq key xs → list_any (like eq key x) ys ≡ false
      → IsApart eq key (xs ++ filter (is_new eq key xs) ys)
      → (IsApart eq key (xs ++ x ∷ []) → IsApart eq key ((xs ++ x ∷ []) ++ filter (is_new eq key (xs ++ x ∷ [])) ys))
      → (b : Bool) → list_any (like eq key x) xs ≡ b → IsApart eq key (xs ++ filter (is_new eq key xs) (x ∷ ys))
  apart_step x ys xs apart none same more true e = subst (λ zs. IsApart eq key (xs ++ zs)) (left_out eq laws key x xs ys e) same
  apart_step x ys xs apart none same more false e =
      subst (λ zs. IsApart eq key zs) (grown eq laws key x xs ys none e) (more (apart_end eq laws key xs x apart e))

  pub apart_more : (ys xs : List X) → IsApart eq key xs → IsApart eq key ys → IsApart eq key (xs ++ filter (is_new eq key xs) ys)
  apart_more [] xs apart others = subst (λ zs. IsApart eq key zs) (sym (append-nil xs)) apart
  apart_more (x ∷ ys) xs apart others =
      apart_step x ys xs apart others.0 (apart_more ys xs apart others.1) (λ a. apart_more ys (xs ++ x ∷ []) a others.1)
      (list_any (like eq key x) xs) refl

-- ---- items with keys and values

module _ {X K V : Type 0} (eq : K → K → Bool) (key : X → K) (id : X → V) where
  -- the entries after items are put in
  abbrev pub put : List (K × V) → List X → List (K × V)
  put es [] = es
  put es (x ∷ xs) = put (insert_entry eq es (key x) (id x)) xs

  -- the value of an item's key after others are put in
  abbrev pub after : List X → (X → V) → X → V
  after xs v m = elim (find (like eq key m) xs) [ None ↦ v m | Some n ↦ id n ]

  abbrev pub entries : (X → V) → List X → List (K × V)
  entries v xs = map (λ m. (key m, v m)) xs

  -- the value of an item's key after one is put in
  abbrev replaced : X → (X → V) → X → V
  replaced x v m = cond (like eq key x m) (id x) (v m)

module _ {X K V : Type 0} (eq : K → K → Bool) (laws : IsEquivalence eq) (key : X → K) (id : X → V) where
  unlike_stay : (x : X) (v : X → V) (xs : List X) → list_any (like eq key x) xs ≡ false
      → entries eq key id v xs ≡ entries eq key id (replaced eq key id x v) xs
  unlike_stay x v [] none = refl
  unlike_stay x v (m ∷ xs) none =
      let parts = neither (like eq key x m) (list_any (like eq key x) xs) none in
      let other = sym parts.0 in
      let rest = unlike_stay x v xs parts.1 in
      λ j. (key m, cond (other j) (id x) (v m)) ∷ rest j

  inserted : (xs : List X) (x : X) (v : X → V) → IsApart eq key xs
      → insert_entry eq (entries eq key id v xs) (key x) (id x)
      ≡ entries eq key id (replaced eq key id x v) xs ++ cond (list_any (like eq key x) xs) [] ((key x, id x) ∷ [])
  inserted [] x v apart = refl
  inserted (m ∷ xs) x v apart = go (like eq key x m) refl (inserted xs x v apart.1)
    where
      go : (b : Bool) → like eq key x m ≡ b
          → insert_entry eq (entries eq key id v xs) (key x) (id x)
          ≡ entries eq key id (replaced eq key id x v) xs ++ cond (list_any (like eq key x) xs) [] ((key x, id x) ∷ [])
          → insert_entry eq (entries eq key id v (m ∷ xs)) (key x) (id x)
          ≡ entries eq key id (replaced eq key id x v) (m ∷ xs) ++ cond (list_any (like eq key x) (m ∷ xs)) [] ((key x, id x) ∷ [])
      go true e rest =
          let none : list_any (like eq key x) xs ≡ false = ap (λ p. list_any p xs) (same_like eq laws key x m e) ∙ apart.0 in
          let stay = unlike_stay x v xs none ∙ sym (append-nil (entries eq key id (replaced eq key id x v) xs)) in
          rw e (ap (λ es. (key m, id x) ∷ es) stay)
      go false e rest = rw e (ap (λ es. (key m, v m) ∷ es) rest)

  after_one : (x : X) (ys : List X) (v : X → V) → list_any (like eq key x) ys ≡ false
      → after eq key id ys (replaced eq key id x v) ≡ after eq key id (x ∷ ys) v
  after_one x ys v none = λ j m. go m (like eq key x m) refl j
    where
      go : (m : X) (b : Bool) → like eq key x m ≡ b → after eq key id ys (replaced eq key id x v) m ≡ after eq key id (x ∷ ys) v m
      go m true e =
          let back : like eq key m x ≡ true = laws.symm (key m) (key x) ∙ e in
          let gone : find (like eq key m) ys ≡ None = none_found eq laws key ys m x e none in
          (λ j. elim (gone j) as (λ _. V) [ None ↦ cond (e j) (id x) (v m) | Some n ↦ id n ])
          ∙ sym (λ j. elim (cond (back j) (Some x) (find (like eq key m) ys)) as (λ _. V) [ None ↦ v m | Some n ↦ id n ])
      go m false e =
          let back : like eq key m x ≡ false = laws.symm (key m) (key x) ∙ e in
          (λ j. elim (find (like eq key m) ys) as (λ _. V) [ None ↦ cond (e j) (id x) (v m) | Some n ↦ id n ])
          ∙ sym (λ j. elim (cond (back j) (Some x) (find (like eq key m) ys)) as (λ _. V) [ None ↦ v m | Some n ↦ id n ])

  put_step : (x : X) (ys xs : List X) (v : X → V) → IsApart eq key xs → list_any (like eq key x) ys ≡ false
      → put eq key id (entries eq key id (replaced eq key id x v) xs) ys
      ≡ entries eq key id (after eq key id ys (replaced eq key id x v)) (xs ++ filter (is_new eq key xs) ys)
      → (IsApart eq key (xs ++ x ∷ []) → put eq key id (entries eq key id (replaced eq key id x v) (xs ++ x ∷ [])) ys
      ≡ entries eq key id (after eq key id ys (replaced eq key id x v)) ((xs ++ x ∷ []) ++ filter (is_new eq key (xs ++ x ∷ [])) ys))
      → (b : Bool) → list_any (like eq key x) xs ≡ b
      → put eq key id (entries eq key id v xs) (x ∷ ys)
      ≡ entries eq key id (after eq key id (x ∷ ys) v) (xs ++ filter (is_new eq key xs) (x ∷ ys))
  put_step x ys xs v apart none same more true e =
      let now : insert_entry eq (entries eq key id v xs) (key x) (id x) ≡ entries eq key id (replaced eq key id x v) xs =
      inserted xs x v apart
      ∙ (ap (λ b. entries eq key id (replaced eq key id x v) xs ++ cond b [] ((key x, id x) ∷ [])) e
      ∙ append-nil (entries eq key id (replaced eq key id x v) xs)) in
      ap (λ es. put eq key id es ys) now
      ∙ (same ∙ (λ j. entries eq key id (after_one x ys v none j) (xs ++ left_out eq laws key x xs ys e j)))
  put_step x ys xs v apart none same more false e =
      let own : cond (eq (key x) (key x)) (id x) (v x) ≡ id x = ap (λ b. cond b (id x) (v x)) (laws.refl (key x)) in
      let now : insert_entry eq (entries eq key id v xs) (key x) (id x) ≡ entries eq key id (replaced eq key id x v) (xs ++ x ∷ []) =
      inserted xs x v apart
      ∙ (ap (λ b. entries eq key id (replaced eq key id x v) xs ++ cond b [] ((key x, id x) ∷ [])) e
      ∙ (ap (λ w. entries eq key id (replaced eq key id x v) xs ++ (key x, w) ∷ []) (sym own)
      ∙ sym (map-append (λ m. (key m, replaced eq key id x v m)) xs (x ∷ [])))) in
      ap (λ es. put eq key id es ys) now
      ∙ (more (apart_end eq laws key xs x apart e)
      ∙ (λ j. entries eq key id (after_one x ys v none j) (grown eq laws key x xs ys none e j)))

  -- what items that are put in leave: of those that were there and of the new ones, the values that the former have now
  pub put_is : (ys xs : List X) (v : X → V) → IsApart eq key xs → IsApart eq key ys
      → put eq key id (entries eq key id v xs) ys ≡ entries eq key id (after eq key id ys v) (xs ++ filter (is_new eq key xs) ys)
  put_is [] xs v apart others = ap (entries eq key id v) (sym (append-nil xs))
  put_is (x ∷ ys) xs v apart others =
      put_step x ys xs v apart others.0
      (put_is ys xs (replaced eq key id x v) apart others.1)
      (λ a. put_is ys (xs ++ x ∷ []) (replaced eq key id x v) a others.1)
      (list_any (like eq key x) xs) refl

-- ---- items that pass a test

none_filtered : {X : Type 0} (p q : X → Bool) (xs : List X) → list_any p xs ≡ false → list_any p (filter q xs) ≡ false
none_filtered p q [] none = refl
none_filtered p q (x ∷ xs) none = let parts = neither (p x) (list_any p xs) none in go (q x) refl parts.0 (none_filtered p q xs parts.1)
  where
    go : (b : Bool) → q x ≡ b → p x ≡ false → list_any p (filter q xs) ≡ false → list_any p (filter q (x ∷ xs)) ≡ false
    go true e here rest = rw (e, here) rest
    go false e here rest = rw e rest

pub apart_filtered : {X K : Type 0} (eq : K → K → Bool) (key : X → K) (q : X → Bool) (xs : List X) → IsApart eq key xs → IsApart eq key (filter q xs)
apart_filtered eq key q [] apart = tt
apart_filtered eq key q (x ∷ xs) apart = go (q x) refl (apart_filtered eq key q xs apart.1)
  where
    go : (b : Bool) → q x ≡ b → IsApart eq key (filter q xs) → IsApart eq key (filter q (x ∷ xs))
    go true e rest = rw e (none_filtered (like eq key x) q xs apart.0, rest)
    go false e rest = rw e rest

-- the first that passes two tests is the first of those that pass one
pub found_filtered : {X : Type 0} (p q r : X → Bool) → ((x : X) → p x ≡ (q x && r x)) → (xs : List X) → find p xs ≡ find r (filter q xs)
found_filtered p q r both [] = refl
found_filtered p q r both (x ∷ xs) = go (q x) refl (found_filtered p q r both xs)
  where
    go : (b : Bool) → q x ≡ b → find p xs ≡ find r (filter q xs) → find p (x ∷ xs) ≡ find r (filter q (x ∷ xs))
    go true e rest =
        let same : p x ≡ r x = both x ∙ ap (λ b. b && r x) e in
        rw (same, e, rest) refl
    go false e rest =
        let no : p x ≡ false = both x ∙ ap (λ b. b && r x) e in
        rw (no, e) rest
