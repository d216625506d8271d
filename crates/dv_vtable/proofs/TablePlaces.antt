-- The entries of a table by the places of their numbers.
use Rattle.std.proofs.Common.{◌≡◌, ◌<◌, ℕ, zero, suc, Bool, true, false, List, [], ◌∷◌, ◌++◌, length, map, get_or, set, position, Option, Some, None, is_some, refl, sym, ap, ◌∙◌, arith}
use Rattle.std.specs.Prelude.{nat_eq, slice_get}
use Rattle.std.specs.List.{list_any}
use Rattle.std.proofs.lemmas.Bool.{eqb-true}
use Rattle.std.proofs.lemmas.Bool.Decides.{nat_tests}
use Rattle.std.proofs.lemmas.List.Folds.{list_any_at}
use Rattle.std.proofs.lemmas.List.Quantifiers.{position-Some}
use Rattle.std.proofs.lemmas.Option.{slice_get-get_or, same_Some}
use Rattle.dv_hier.proofs.Twice.{some_place}
use Rattle.dv_vtable.specs.Chains.{insert_entry}
use Rattle.dv_vtable.specs.Numbered.{HavePlaces}
use Rattle.dv_vtable.proofs.Inserting.{neither}

module _ {K V : Type 0} (eq : K → K → Bool) where
  abbrev keys_of : List (K × V) → List K
  keys_of es = map (λ e. e.0) es

  -- a key that is there keeps its place
  pub inserted_at : (es : List (K × V)) (k : K) (v : V) (i : ℕ) (d : K) (x : K × V) → i < length (keys_of es)
      → eq k (get_or (keys_of es) i d) ≡ true → ((j : ℕ) → j < i → eq k (get_or (keys_of es) j d) ≡ false)
      → insert_entry eq es k v ≡ set es i ((get_or es i x).0, v)
  inserted_at [] k v i d x within here before = absurd (omega arith)
  inserted_at (e ∷ es) k v zero d x within here before = rw here refl
  inserted_at (e ∷ es) k v (suc i) d x within here before =
      rw (before 0 (omega arith)) (ap (λ xs. e ∷ xs) (inserted_at es k v i d x (omega arith) here (λ j less. before (suc j) (omega arith))))

  -- a new one goes last
  pub inserted_last : (es : List (K × V)) (k : K) (v : V) → list_any (eq k) (keys_of es) ≡ false → insert_entry eq es k v ≡ es ++ (k, v) ∷ []
  inserted_last [] k v none = refl
  inserted_last (e ∷ es) k v none =
      let parts = neither (eq k e.0) (list_any (eq k) (keys_of es)) none in
      rw parts.0 (ap (λ xs. e ∷ xs) (inserted_last es k v parts.1))

-- another value under a key leaves the keys as they were
keys_stay : {K V : Type 0} (es : List (K × V)) (i : ℕ) (x : K × V) (v : V) → i < length (map (λ (e : K × V). e.0) es) → map (λ (e : K × V). e.0) (set es i ((get_or es i x).0, v)) ≡ map (λ (e : K × V). e.0) es
keys_stay [] i x v within = absurd (omega arith)
keys_stay (e ∷ es) zero x v within = refl
keys_stay (e ∷ es) (suc i) x v within = ap (λ ks. e.0 ∷ ks) (keys_stay es i x v (omega arith))

pub keys_replaced : {K V : Type 0} (es : List (K × V)) (i : ℕ) (x : K × V) (v : V) → x ≡ get_or es i x → i < length (map (λ (e : K × V). e.0) es) → map (λ (e : K × V). e.0) (set es i (x.0, v)) ≡ map (λ (e : K × V). e.0) es
keys_replaced {K} {V} es i x v is within = ap (λ (y : K × V). map (λ (e : K × V). e.0) (set es i (y.0, v))) is ∙ keys_stay es i x v within

-- one more entry has its key last
pub keys_pushed : {K V : Type 0} (es : List (K × V)) (k : K) (v : V) → map (λ (e : K × V). e.0) (es ++ (k, v) ∷ []) ≡ map (λ (e : K × V). e.0) es ++ k ∷ []
keys_pushed [] k v = refl
keys_pushed (e ∷ es) k v = ap (λ ks. e.0 ∷ ks) (keys_pushed es k v)

-- ---- the places of numbers

-- a number that has an entry leads to it
leads : (ns places : List ℕ) (n j : ℕ) → HavePlaces ns places → position (nat_eq n) ns ≡ Some j → (j < length ns) × (get_or ns j n ≡ n) × (slice_get places n ≡ Some j)
leads ns places n j have found =
    let parts = position-Some (nat_eq n) ns j n found in
    let same : get_or ns j n ≡ n = sym (eqb-true n (get_or ns j n) parts.1) in
    let at : slice_get ns j ≡ Some n = slice_get-get_or ns j n parts.0 ∙ ap Some same in
    (parts.0, same, have j n at)

-- the entry at its place has the number
pub place_found : (ns places : List ℕ) (n place d : ℕ) → HavePlaces ns places → slice_get places n ≡ Some place → place < length ns → get_or ns place d ≡ n
    → Some place ≡ position (nat_eq n) ns
place_found ns places n place d have at within same = go (position (nat_eq n) ns) refl
  where
    go : (o : Option ℕ) → position (nat_eq n) ns ≡ o → Some place ≡ position (nat_eq n) ns
    go (Some j) found = sym at ∙ ((leads ns places n j have found).2 ∙ sym found)
    go None none =
        let here : nat_eq n (get_or ns place d) ≡ true = grind (arith, nat_tests) in
        let some : list_any (nat_eq n) ns ≡ true = list_any_at (nat_eq n) ns place d within here in
        let wrong : false ≡ true = ap is_some (sym none) ∙ (some_place (nat_eq n) ns ∙ some) in
        absurd (cc)

-- it hasn't, or there is none
pub place_lost : (ns places : List ℕ) (n place : ℕ) → HavePlaces ns places → slice_get places n ≡ Some place → (place < length ns → get_or ns place n ≡ n → false ≡ true)
    → None ≡ position (nat_eq n) ns
place_lost ns places n place have at other = go (position (nat_eq n) ns) refl
  where
    go : (o : Option ℕ) → position (nat_eq n) ns ≡ o → None ≡ position (nat_eq n) ns
    go None none = sym none
    go (Some j) found =
        let there = leads ns places n j have found in
        let same : place ≡ j = same_Some place j (sym at ∙ there.2) in
        let wrong : false ≡ true = other (rw same there.0) (rw same there.1) in
        absurd (cc)

set_same : (xs : List ℕ) (i x : ℕ) → i < length xs → slice_get (set xs i x) i ≡ Some x
set_same [] i x within = absurd (omega arith)
set_same (y ∷ xs) zero x within = refl
set_same (y ∷ xs) (suc i) x within = set_same xs i x (omega arith)

set_other : (xs : List ℕ) (i j x : ℕ) → nat_eq i j ≡ false → slice_get (set xs i x) j ≡ slice_get xs j
set_other [] i j x other = refl
set_other (y ∷ xs) zero zero x other = absurd (grind (arith, nat_tests))
set_other (y ∷ xs) zero (suc j) x other = refl
set_other (y ∷ xs) (suc i) zero x other = refl
set_other (y ∷ xs) (suc i) (suc j) x other = set_other xs i j x (grind (arith, nat_tests))

none_at : {X : Type 0} (p : X → Bool) (xs : List X) (i : ℕ) (x : X) → list_any p xs ≡ false → slice_get xs i ≡ Some x → p x ≡ false
none_at p [] i x none at = absurd (cc)
none_at p (y ∷ xs) zero x none at = ap p (sym (same_Some y x at)) ∙ (neither (p y) (list_any p xs) none).0
none_at p (y ∷ xs) (suc i) x none at = none_at p xs i x (neither (p y) (list_any p xs) none).1 at

pushed_at : {X P : Type 0} (xs : List X) (y : X) (i : ℕ) (x : X) → slice_get (xs ++ y ∷ []) i ≡ Some x
    → (slice_get xs i ≡ Some x → P) → (i ≡ length xs → y ≡ x → P) → P
pushed_at [] y zero x at old last = last refl (same_Some y x at)
pushed_at [] y (suc i) x at old last = absurd (cc)
pushed_at (z ∷ xs) y zero x at old last = old at
pushed_at (z ∷ xs) y (suc i) x at old last = pushed_at xs y i x at old (λ is. last (ap suc is))

-- one more entry has the place behind the others
pub places_pushed : (ns places : List ℕ) (n : ℕ) → HavePlaces ns places → n < length places → list_any (nat_eq n) ns ≡ false → HavePlaces (ns ++ n ∷ []) (set places n (length ns))
places_pushed ns places n have within none i m at =
    pushed_at ns n i m at
    (λ old. set_other places n m (length ns) (none_at (nat_eq n) ns i m none old) ∙ have i m old)
    (λ end is. rw (end, sym is) (set_same places n (length ns) within))
