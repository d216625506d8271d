-- Names that are told once, all of which are among others, are no more than these.
use Rattle.std.proofs.Common.{◌≡◌, ◌+◌, ◌<◌, ◌≤◌, ℕ, suc, Bool, true, false, not, cond, ◌&&◌, ◌||◌, List, [], ◌∷◌, length, get_or, refl, sym, ap, ◌∙◌, arith}
use Rattle.std.specs.Prelude.{bytes_eq}
use Rattle.std.specs.List.{position_or_len}
use Rattle.std.proofs.lemmas.Slice.Eq.{bytes_eq-Decides}
use Rattle.std.proofs.lemmas.Bool.{and_from, and_parts, not-true, or_parts}
use Rattle.law_linking.proofs.Names.{bytes_eq_sym}

abbrev pub is_among : List ℕ → List (List ℕ) → Bool
is_among n [] = false
is_among n (m ∷ ms) = bytes_eq n m || is_among n ms

-- no name stands twice
abbrev pub once : List (List ℕ) → Bool
once [] = true
once (n ∷ ns) = not (is_among n ns) && once ns

abbrev pub all_among : List (List ℕ) → List (List ℕ) → Bool
all_among [] ms = true
all_among (n ∷ ns) ms = is_among n ms && all_among ns ms

-- the names but for the first that is this one
without : List ℕ → List (List ℕ) → List (List ℕ)
without n [] = []
without n (m ∷ ms) = elim (bytes_eq n m) [ true ↦ ms | false ↦ m ∷ without n ms ]

-- one name less
without_one : (n : List ℕ) (ms : List (List ℕ)) → is_among n ms ≡ true → length ms ≡ suc (length (without n ms))
unfolding without
without_one n [] there = absurd (cc)
without_one n (m ∷ ms) there = by (bytes_eq n m) (without_one n ms) there
  where
    by : (b : Bool) → (is_among n ms ≡ true → length ms ≡ suc (length (without n ms))) → (b || is_among n ms) ≡ true → suc (length ms) ≡ suc (length {A = List ℕ} (elim b [ true ↦ ms | false ↦ m ∷ without n ms ]))
    by true rest h = refl
    by false rest h = ap suc (rest h)

-- another name stays
other_stays : (n x : List ℕ) (ms : List (List ℕ)) → bytes_eq n x ≡ false → is_among x ms ≡ true → is_among x (without n ms) ≡ true
unfolding without
other_stays n x [] other there = there
other_stays n x (m ∷ ms) other there = by (other_stays n x ms other) (bytes_eq n m) refl (bytes_eq x m) refl there
  where
    same : bytes_eq n m ≡ true → bytes_eq x m ≡ true → bytes_eq n x ≡ true
    same a b = (bytes_eq-Decides n x).1 ((bytes_eq-Decides n m).0 a ∙ sym ((bytes_eq-Decides x m).0 b))

    by : (is_among x ms ≡ true → is_among x (without n ms) ≡ true) → (b : Bool) → bytes_eq n m ≡ b → (c : Bool) → bytes_eq x m ≡ c → (c || is_among x ms) ≡ true → is_among x (elim b [ true ↦ ms | false ↦ m ∷ without n ms ]) ≡ true
    by rest true e true f h = let both : true ≡ false = sym (same e f) ∙ other in absurd (cc)
    by rest true e false f h = h
    by rest false e true f h = ap (λ (c : Bool). c || is_among x (without n ms)) f
    by rest false e false f h = ap (λ (c : Bool). c || is_among x (without n ms)) f ∙ rest h

others_stay : (n : List ℕ) (ns ms : List (List ℕ)) → is_among n ns ≡ false → all_among ns ms ≡ true → all_among ns (without n ms) ≡ true
others_stay n [] ms none there = refl
others_stay n (x ∷ ns) ms none there =
    and_from (is_among x (without n ms)) (all_among ns (without n ms))
    (other_stays n x ms (or_parts (bytes_eq n x) (is_among n ns) none).0 (and_parts (is_among x ms) (all_among ns ms) there).0)
    (others_stay n ns ms (or_parts (bytes_eq n x) (is_among n ns) none).1 (and_parts (is_among x ms) (all_among ns ms) there).1)

-- names that stand once, all among others, are no more than these
pub no_more : (ns ms : List (List ℕ)) → once ns ≡ true → all_among ns ms ≡ true → length ns ≤ length ms
no_more [] ms each there = omega arith
no_more (n ∷ ns) ms each there =
    let here = and_parts (is_among n ms) (all_among ns ms) there in
    let alone = and_parts (not (is_among n ns)) (once ns) each in
    let rest = no_more ns (without n ms) alone.1 (others_stay n ns ms (not-true (is_among n ns) alone.0) here.1) in
    omega (arith, rest, without_one n ms here.0)

-- each name's first place is its own
abbrev pub OwnPlaces : List (List ℕ) → Type 0
OwnPlaces ns = (i : ℕ) → i < length ns → position_or_len (bytes_eq (get_or ns i [])) ns ≡ i

own_behind : (n : List ℕ) (ns : List (List ℕ)) → OwnPlaces (n ∷ ns) → OwnPlaces ns
own_behind n ns own i within = by (bytes_eq (get_or ns i []) n) refl (own (suc i) (omega arith))
  where
    by : (b : Bool) → bytes_eq (get_or ns i []) n ≡ b → cond (not (bytes_eq (get_or ns i []) n)) (1 + position_or_len (bytes_eq (get_or ns i [])) ns) 0 ≡ suc i → position_or_len (bytes_eq (get_or ns i [])) ns ≡ i
    by true e h = let zero_is : cond (not true) (1 + position_or_len (bytes_eq (get_or ns i [])) ns) 0 ≡ suc i = sym (ap (λ b. cond (not b) (1 + position_or_len (bytes_eq (get_or ns i [])) ns) 0) e) ∙ h in absurd (cc)
    by false e h = let more : 1 + position_or_len (bytes_eq (get_or ns i [])) ns ≡ suc i = sym (ap (λ b. cond (not b) (1 + position_or_len (bytes_eq (get_or ns i [])) ns) 0) e) ∙ h in omega arith

-- a name that stands at a later place too has an earlier first place there
not_behind : (n : List ℕ) (ns ms : List (List ℕ)) → ((i : ℕ) → i < length ms → bytes_eq (get_or ms i []) n ≡ false) → is_among n ms ≡ false
not_behind n ns [] none = refl
not_behind n ns (m ∷ ms) none =
    let here : bytes_eq n m ≡ false = bytes_eq_sym n m ∙ none 0 (omega arith) in
    ap (λ (b : Bool). b || is_among n ms) here ∙ not_behind n ns ms (λ i within. none (suc i) (omega arith))

differs_behind : (n : List ℕ) (ns : List (List ℕ)) → OwnPlaces (n ∷ ns) → (i : ℕ) → i < length ns → bytes_eq (get_or ns i []) n ≡ false
differs_behind n ns own i within = by (bytes_eq (get_or ns i []) n) refl (own (suc i) (omega arith))
  where
    by : (b : Bool) → bytes_eq (get_or ns i []) n ≡ b → cond (not (bytes_eq (get_or ns i []) n)) (1 + position_or_len (bytes_eq (get_or ns i [])) ns) 0 ≡ suc i → bytes_eq (get_or ns i []) n ≡ false
    by true e h = let zero_is : cond (not true) (1 + position_or_len (bytes_eq (get_or ns i [])) ns) 0 ≡ suc i = sym (ap (λ b. cond (not b) (1 + position_or_len (bytes_eq (get_or ns i [])) ns) 0) e) ∙ h in absurd (cc)
    by false e h = e

pub once_by : (ns : List (List ℕ)) → OwnPlaces ns → once ns ≡ true
once_by [] own = refl
once_by (n ∷ ns) own =
    and_from (not (is_among n ns)) (once ns) (ap not (not_behind n ns ns (differs_behind n ns own))) (once_by ns (own_behind n ns own))
