-- The ranges of handlers by their starts: each range stands there, and where two with the same start are the same, each
-- stands there once, and ranges that come in groups by their starts are put one behind another.
use Rattle.std.proofs.Common.{◌≡◌, ℕ, ◌+◌, ◌<◌, ◌≤◌, suc, Bool, true, false, not, ◌⊎◌, inl, inr, List, [], ◌∷◌, ◌++◌, length, nat_lt, nat_eq, Some, None, cond, if◌then◌else◌, refl, ap, sym, ◌∙◌, subst, arith, ⊎_elim, append_assoc, append-nil}
use Rattle.std.specs.Prelude.{fold, insert, nat_le}
use Rattle.std.specs.Option.{unwrap_or}
use Rattle.std.specs.List.{slice_get, prefix_len, flat_map}
use Rattle.std.proofs.lemmas.Bool.{eqb-true}
use Rattle.std.proofs.lemmas.Bool.Decides.{nat_tests}
use Rattle.std.proofs.lemmas.List.Sums.{fold-append}
use Rattle.dv_asm.specs.declared.tries.TryRange.{TryRange}
use Rattle.dv_asm.specs.Refusals.{is_same}
use Rattle.dv_asm.specs.Layout.{with_range}
use Rattle.dv_asm.proofs.RangeLemmas.{range_by, same_range, same_itself, is_same_as, other_start, other_start_above, put_by, put, folds_alike}
use Rattle.dv_print.specs.Laws.{Among, After, IsSorted}

-- ---- which ranges stand there

has_by : (b c : Bool) (r s : TryRange) (rs rest : List TryRange) → is_same s r ≡ c → Among r rest → Among r (put_by b c r s rs rest)
has_by true true r s rs rest e h = inl (same_range s r e)
has_by true false r s rs rest e h = inl refl
has_by false c r s rs rest e h = inr h

put_has : (rs : List TryRange) (r : TryRange) → Among r (put rs r)
put_has [] r = inl refl
put_has (s ∷ rs) r = has_by (nat_le r.start s.start) (is_same s r) r s rs (put rs r) refl (put_has rs r)

keeps_by : (b c : Bool) (q r s : TryRange) (rs rest : List TryRange) → (Among q rs → Among q rest) → Among q (s ∷ rs) → Among q (put_by b c r s rs rest)
keeps_by true true q r s rs rest f h = h
keeps_by true false q r s rs rest f h = inr h
keeps_by false c q r s rs rest f (inl e) = inl e
keeps_by false c q r s rs rest f (inr h) = inr (f h)

put_keeps : (rs : List TryRange) (q r : TryRange) → Among q rs → Among q (put rs r)
put_keeps [] q r h = absurd h
put_keeps (s ∷ rs) q r h = keeps_by (nat_le r.start s.start) (is_same s r) q r s rs (put rs r) (put_keeps rs q r) h

from_by : (b c : Bool) (q r s : TryRange) (rs rest : List TryRange) → (Among q rest → Among q rs ⊎ (r ≡ q)) → Among q (put_by b c r s rs rest) → Among q (s ∷ rs) ⊎ (r ≡ q)
from_by true true q r s rs rest f h = inl h
from_by true false q r s rs rest f (inl e) = inr e
from_by true false q r s rs rest f (inr h) = inl h
from_by false c q r s rs rest f (inl e) = inl (inl e)
from_by false c q r s rs rest f (inr h) = ⊎_elim (λ old. inl (inr old)) (λ new. inr new) (f h)

put_from : (rs : List TryRange) (q r : TryRange) → Among q (put rs r) → Among q rs ⊎ (r ≡ q)
put_from [] q r (inl e) = inr e
put_from [] q r (inr h) = absurd h
put_from (s ∷ rs) q r h = from_by (nat_le r.start s.start) (is_same s r) q r s rs (put rs r) (put_from rs q r) h

fold_keeps : (acc rs : List TryRange) (q : TryRange) → Among q acc → Among q (fold put acc rs)
fold_keeps acc [] q h = h
fold_keeps acc (r ∷ rs) q h = fold_keeps (put acc r) rs q (put_keeps acc q r h)

-- each range stands among those by their starts
pub fold_has : (acc rs : List TryRange) (q : TryRange) → Among q rs → Among q (fold put acc rs)
fold_has acc [] q h = absurd h
fold_has acc (r ∷ rs) q (inl e) = let P : TryRange → Type 0 = λ x. Among x (fold put (put acc r) rs) in subst P e (fold_keeps (put acc r) rs r (put_has acc r))
fold_has acc (r ∷ rs) q (inr h) = fold_has (put acc r) rs q h

-- no other range stands there
pub fold_from : (acc rs : List TryRange) (q : TryRange) → Among q (fold put acc rs) → Among q acc ⊎ Among q rs
fold_from acc [] q h = inl h
fold_from acc (r ∷ rs) q h =
    ⊎_elim (λ was. ⊎_elim (λ old. inl old) (λ new. inr (inl new)) (put_from acc q r was)) (λ later. inr (inr later)) (fold_from (put acc r) rs q h)

-- ---- they stand by their starts

-- ranges with the same start are the same
abbrev pub Agree : List TryRange → Type 0
Agree rs = (q r : TryRange) → Among q rs → Among r rs → q.start ≡ r.start → q ≡ r

pub after_at : (n : ℕ) (rs : List TryRange) (q : TryRange) → After n rs → Among q rs → n < q.start
after_at n [] q h at = absurd at
after_at n (s ∷ rs) q h (inl e) = let less = h.0 in let same : s.start ≡ q.start = ap (λ (x : TryRange). x.start) e in omega arith
after_at n (s ∷ rs) q h (inr at) = after_at n rs q h.1 at

after_less : (m n : ℕ) (rs : List TryRange) → m < n → After n rs → After m rs
after_less m n [] less h = tt
after_less m n (s ∷ rs) less h = let above = h.0 in (omega arith, after_less m n rs less h.1)

after_by : (b c : Bool) (n : ℕ) (r s : TryRange) (rs rest : List TryRange) → n < r.start → After n (s ∷ rs) → After n rest → After n (put_by b c r s rs rest)
after_by true true n r s rs rest less h later = h
after_by true false n r s rs rest less h later = (less, h)
after_by false c n r s rs rest less h later = (h.0, later)

after_put : (n : ℕ) (rs : List TryRange) (r : TryRange) → n < r.start → After n rs → After n (put rs r)
after_put n [] r less h = (less, tt)
after_put n (s ∷ rs) r less h = after_by (nat_le r.start s.start) (is_same s r) n r s rs (put rs r) less h (after_put n rs r less h.1)

starts_above : (r s : TryRange) → nat_le r.start s.start ≡ true → is_same s r ≡ false → (s.start ≡ r.start → s ≡ r) → r.start < s.start
starts_above r s before other agree = at (nat_lt r.start s.start) refl
  where
    at : (b : Bool) → nat_lt r.start s.start ≡ b → r.start < s.start
    at true e = grind (arith, nat_tests)
    at false e =
        let level : s.start ≡ r.start = grind (arith, nat_tests) in
        absurd (cc (other, is_same_as s r (agree level)))

starts_below : (r s : TryRange) → nat_le r.start s.start ≡ false → s.start < r.start
starts_below r s e = grind (arith, nat_tests)

sorted_by : (b c : Bool) (r s : TryRange) (rs : List TryRange) → nat_le r.start s.start ≡ b → is_same s r ≡ c → IsSorted (s ∷ rs) → (s.start ≡ r.start → s ≡ r) → IsSorted (put rs r) → IsSorted (put_by b c r s rs (put rs r))
sorted_by true true r s rs e h sorted agree rest = sorted
sorted_by true false r s rs e h sorted agree rest =
    let less = starts_above r s e h agree in
    ((less, after_less r.start s.start rs less sorted.0), sorted)
sorted_by false c r s rs e h sorted agree rest = (after_put s.start rs r (starts_below r s e) sorted.0, rest)

put_sorted : (rs : List TryRange) (r : TryRange) → IsSorted rs → ((q : TryRange) → Among q rs → q.start ≡ r.start → q ≡ r) → IsSorted (put rs r)
put_sorted [] r sorted agree = (tt, tt)
put_sorted (s ∷ rs) r sorted agree =
    sorted_by (nat_le r.start s.start) (is_same s r) r s rs refl refl sorted (agree s (inl refl)) (put_sorted rs r sorted.1 (λ q at. agree q (inr at)))

fold_sorted : (all acc rs : List TryRange) → Agree all → ((q : TryRange) → Among q acc → Among q all) → ((q : TryRange) → Among q rs → Among q all) → IsSorted acc → IsSorted (fold put acc rs)
fold_sorted all acc [] agree left right sorted = sorted
fold_sorted all acc (r ∷ rs) agree left right sorted =
    let here = right r (inl refl) in
    let P : TryRange → Type 0 = λ x. Among x all in
    fold_sorted all (put acc r) rs agree
    (λ q at. ⊎_elim (λ old. left q old) (λ new. subst P new here) (put_from acc q r at))
    (λ q at. right q (inr at))
    (put_sorted acc r sorted (λ q at. agree q r (left q at) here))

-- where ranges with the same start are the same, each starts behind those before it
pub sorted_where : (rs : List TryRange) → Agree rs → IsSorted (fold put [] rs)
sorted_where rs agree = fold_sorted rs [] rs agree (λ q at. absurd at) (λ q at. at) tt

-- ---- ranges that come in groups

-- the ranges start before an address
abbrev Before : ℕ → List TryRange → Type 0
Before n [] = Unit {0}
Before n (s ∷ rs) = (s.start < n) × Before n rs

not_in_front : (r s : TryRange) → s.start < r.start → nat_le r.start s.start ≡ false
not_in_front r s less = grind (arith, nat_tests)

-- a range that starts behind the others stands last
put_last : (acc : List TryRange) (r : TryRange) → Before r.start acc → put acc r ≡ acc ++ r ∷ []
put_last [] r h = refl
put_last (s ∷ acc) r h =
    ap (λ b. put_by b (is_same s r) r s acc (put acc r)) (not_in_front r s h.0) ∙ ap (λ xs. s ∷ xs) (put_last acc r h.1)

put_again : (acc : List TryRange) (r : TryRange) → Before r.start acc → put (acc ++ r ∷ []) r ≡ acc ++ r ∷ []
put_again [] r h =
    let level : nat_le r.start r.start ≡ true = grind (arith, nat_tests) in
    ap (λ b. put_by b (is_same r r) r r [] (put [] r)) level ∙ ap (λ c. put_by true c r r [] (put [] r)) (same_itself r)
put_again (s ∷ acc) r h =
    ap (λ b. put_by b (is_same s r) r s (acc ++ r ∷ []) (put (acc ++ r ∷ []) r)) (not_in_front r s h.0) ∙ ap (λ xs. s ∷ xs) (put_again acc r h.1)

-- each of the ranges is this one
abbrev pub AllAre : TryRange → List TryRange → Type 0
AllAre r [] = Unit {0}
AllAre r (s ∷ rs) = (s ≡ r) × AllAre r rs

-- the ranges are this one, at least once
abbrev pub IsGroup : TryRange → List TryRange → Type 0
IsGroup r [] = ⊥
IsGroup r (s ∷ rs) = (s ≡ r) × AllAre r rs

repeats : (acc rs : List TryRange) (r : TryRange) → Before r.start acc → AllAre r rs → fold put (acc ++ r ∷ []) rs ≡ acc ++ r ∷ []
repeats acc [] r h all = refl
repeats acc (s ∷ rs) r h all =
    ap (λ x. fold put (put (acc ++ r ∷ []) x) rs) all.0 ∙ (ap (λ xs. fold put xs rs) (put_again acc r h) ∙ repeats acc rs r h all.1)

group_last : (acc rs : List TryRange) (r : TryRange) → Before r.start acc → IsGroup r rs → fold put acc rs ≡ acc ++ r ∷ []
group_last acc [] r h group = absurd group
group_last acc (s ∷ rs) r h group =
    ap (λ x. fold put (put acc x) rs) group.0 ∙ (ap (λ xs. fold put xs rs) (put_last acc r h) ∙ repeats acc rs r h group.1)

before_more : (n : ℕ) (acc : List TryRange) (r : TryRange) → Before n acc → r.start < n → Before n (acc ++ r ∷ [])
before_more n [] r h less = (less, tt)
before_more n (s ∷ acc) r h less = (h.0, before_more n acc r h.1 less)

groups_behind : (group : TryRange → List TryRange) (acc rs : List TryRange) → ((q : TryRange) → Among q rs → Before q.start acc) → IsSorted rs → ((q : TryRange) → Among q rs → IsGroup q (group q)) → fold put acc (flat_map group rs) ≡ acc ++ rs
groups_behind group acc [] before sorted groups = sym (append-nil acc)
groups_behind group acc (r ∷ rs) before sorted groups =
    let here : Before r.start acc = before r (inl refl) in
    fold-append put acc (group r) (flat_map group rs) ∙
    (ap (λ xs. fold put xs (flat_map group rs)) (group_last acc (group r) r here (groups r (inl refl))) ∙
    (groups_behind group (acc ++ r ∷ []) rs (λ q at. before_more q.start acc r (before q (inr at)) (after_at r.start rs q sorted.0 at)) sorted.1 (λ q at. groups q (inr at)) ∙
    append_assoc acc (r ∷ []) rs))

-- ranges that come in groups, by their starts, stand there each once
pub groups_sorted : (group : TryRange → List TryRange) (rs : List TryRange) → IsSorted rs → ((q : TryRange) → Among q rs → IsGroup q (group q)) → fold put [] (flat_map group rs) ≡ rs
groups_sorted group rs sorted groups = groups_behind group [] rs (λ q at. tt) sorted groups
