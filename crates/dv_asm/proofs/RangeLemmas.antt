-- Ranges by their starts: what stands there once one more is put in its place, and whether a range overlaps one of them.
use Rattle.std.proofs.Common.{◌≡◌, ℕ, ◌+◌, ◌<◌, ◌≤◌, suc, Bool, true, false, not, ◌||◌, ◌&&◌, List, [], ◌∷◌, ◌++◌, length, filter, nat_lt, nat_eq, Option, Some, None, cond, if◌then◌else◌, refl, ap, sym, subst, ◌∙◌, arith}
use Rattle.std.specs.BTreeMap.{insert_entry}
use Rattle.std.specs.BTreeMap.Range.{range_contains}
use Rattle.std.specs.declared.ops.Bound.TheVariants.{Unbounded, Excluded}
use Rattle.std.specs.Ordering.{nat_cmp, match_ordering, MatchOrdering, is_eq, is_le}
use Rattle.std.specs.declared.cmp.Ordering.{Ordering}
use Rattle.std.specs.declared.cmp.Ordering.TheVariants.{Less, Equal, Greater}
use Rattle.std.specs.Prelude.{fold, insert, nat_le}
use Rattle.std.proofs.lemmas.Cmp.{ranked}
use Rattle.std.specs.Option.{unwrap_or}
use Rattle.std.specs.List.{slice_get, prefix_len, list_any}
use Rattle.std.proofs.lemmas.Bool.{eqb-true}
use Rattle.std.proofs.lemmas.Bool.Decides.{nat_tests}
use Rattle.dv_asm.specs.declared.tries.TryRange.{TryRange}
use Rattle.dv_asm.specs.Refusals.{is_same, is_empty, overlaps}
use Rattle.dv_asm.specs.Layout.{begins_from, place_among, is_range, with_range}
use Rattle.dv_asm.specs.contracts.tries.TryRangeOrd.TheImpl.Laws as of_order
use Rattle.dv_asm.specs.Ranges.{range_in, ranges_in, range_cmp, StartFrom, AreApart}

both : (a b : Bool) → (a && b) ≡ true → (a ≡ true) × (b ≡ true)
both true b e = (refl, e)
both false b e = absurd (cc)

-- ---- the same range

pub range_by : (a b m n : ℕ) → a ≡ b → m ≡ n → (let r : TryRange = record { start = a; end = m } in r) ≡ record { start = b; end = n }
range_by a b m n e h = cc

pub same_range : (r s : TryRange) → is_same r s ≡ true → r ≡ s
same_range r s e =
    let p = both (nat_eq r.start s.start) (nat_eq r.end s.end) e in
    range_by r.start s.start r.end s.end (eqb-true r.start s.start p.0) (eqb-true r.end s.end p.1)

-- ranges are the same where neither comes before the other
pub same_by_order : (r s : TryRange) → is_same r s ≡ is_eq (range_cmp r s)
same_by_order = of_order.matches_eq-law

pub same_itself : (r : TryRange) → is_same r r ≡ true
same_itself r = grind (arith, nat_tests)

pub is_same_as : (r s : TryRange) → r ≡ s → is_same r s ≡ true
is_same_as r s e = ap (λ q. is_same q s) e ∙ same_itself s

pub other_start : (r s : TryRange) → r.start < s.start → is_same r s ≡ false
other_start r s less = grind (arith, nat_tests)

pub other_start_above : (r s : TryRange) → s.start < r.start → is_same r s ≡ false
other_start_above r s less = grind (arith, nat_tests)

-- ---- a range in its place, by recursion

abbrev pub put_by : Bool → Bool → TryRange → TryRange → List TryRange → List TryRange → List TryRange
put_by before same r s rs rest = if before then (if same then s ∷ rs else r ∷ s ∷ rs) else s ∷ rest

abbrev pub put : List TryRange → TryRange → List TryRange
put [] r = r ∷ []
put (s ∷ rs) r = put_by (nat_le r.start s.start) (is_same s r) r s rs (put rs r)

abbrev starts_before : TryRange → TryRange → Bool
starts_before r s = not (begins_from r s)

abbrev with_at : List TryRange → ℕ → TryRange → List TryRange
with_at rs n r = if is_range r (slice_get rs n) then rs else insert rs n r

prefix_within : (p : TryRange → Bool) (rs : List TryRange) → prefix_len p rs ≤ length rs
prefix_within p [] = omega arith
prefix_within p (s ∷ rs) = at (p s) (prefix_within p rs)
  where
    at : (b : Bool) → prefix_len p rs ≤ length rs → cond b (1 + prefix_len p rs) 0 ≤ suc (length rs)
    at true h = omega arith
    at false h = omega arith

first_or_length : (n m : ℕ) → n ≤ m → unwrap_or (cond (nat_lt n m) (Some n) None) m ≡ n
first_or_length n m h = at (nat_lt n m) refl
  where
    at : (b : Bool) → nat_lt n m ≡ b → unwrap_or (cond b (Some n) None) m ≡ n
    at true e = refl
    at false e = grind (arith, nat_tests)

place_is : (rs : List TryRange) (r : TryRange) → place_among rs r ≡ prefix_len (starts_before r) rs
place_is rs r = first_or_length (prefix_len (starts_before r) rs) (length rs) (prefix_within (starts_before r) rs)

if_behind : (c : Bool) (s : TryRange) (xs ys : List TryRange) → (if c then s ∷ xs else s ∷ ys) ≡ s ∷ (if c then xs else ys)
if_behind true s xs ys = refl
if_behind false s xs ys = refl

at_behind : (s : TryRange) (rs : List TryRange) (n : ℕ) (r : TryRange) → with_at (s ∷ rs) (suc n) r ≡ s ∷ with_at rs n r
at_behind s rs n r = if_behind (is_range r (slice_get rs n)) s rs (insert rs n r)

with_step : (b : Bool) (s : TryRange) (rs : List TryRange) (n : ℕ) (r : TryRange) (rest : List TryRange) → with_at rs n r ≡ rest → with_at (s ∷ rs) (cond (not b) (1 + n) 0) r ≡ put_by b (is_same s r) r s rs rest
with_step true s rs n r rest e = refl
with_step false s rs n r rest e =
    let next : 1 + n ≡ suc n = omega arith in
    ap (λ m. with_at (s ∷ rs) m r) next ∙ (at_behind s rs n r ∙ ap (λ xs. s ∷ xs) e)

with_put : (rs : List TryRange) (r : TryRange) → with_at rs (prefix_len (starts_before r) rs) r ≡ put rs r
with_put [] r = refl
with_put (s ∷ rs) r = with_step (nat_le r.start s.start) s rs (prefix_len (starts_before r) rs) r (put rs r) (with_put rs r)

with_is_put : (rs : List TryRange) (r : TryRange) → with_range rs r ≡ put rs r
with_is_put rs r = ap (λ n. with_at rs n r) (place_is rs r) ∙ with_put rs r

pub folds_alike : (acc rs : List TryRange) → fold with_range acc rs ≡ fold put acc rs
folds_alike acc [] = refl
folds_alike acc (r ∷ rs) = ap (λ xs. fold with_range xs rs) (with_is_put acc r) ∙ folds_alike (put acc r) rs

-- ---- ranges by their starts in a map

by_three : (a b c : Bool) → (a || (b || c)) ≡ (b || (a || c))
by_three true true c = refl
by_three true false c = refl
by_three false b c = refl

any_by : (test : TryRange → Bool) (b c : Bool) (r s : TryRange) (rs rest : List TryRange) → is_same s r ≡ c → list_any test rest ≡ (test r || list_any test rs) → list_any test (put_by b c r s rs rest) ≡ (test r || (test s || list_any test rs))
any_by test true true r s rs rest e h = at (test s) (ap test (same_range s r e))
  where
    at : (b : Bool) → b ≡ test r → (b || list_any test rs) ≡ (test r || (b || list_any test rs))
    at true is = ap (λ (x : Bool). x || true) is
    at false is = ap (λ (x : Bool). x || list_any test rs) is
any_by test true false r s rs rest e h = refl
any_by test false c r s rs rest e h = ap (λ (x : Bool). test s || x) h ∙ by_three (test s) (test r) (list_any test rs)

any_put : (test : TryRange → Bool) (rs : List TryRange) (r : TryRange) → list_any test (put rs r) ≡ (test r || list_any test rs)
any_put test [] r = refl
any_put test (s ∷ rs) r = any_by test (nat_le r.start s.start) (is_same s r) r s rs (put rs r) refl (any_put test rs r)

or_none : (a : Bool) → (a || false) ≡ a
or_none true = refl
or_none false = refl

or_swap : (a b c : Bool) → ((a || b) || c) ≡ (b || (a || c))
or_swap true true c = refl
or_swap true false c = refl
or_swap false b c = refl

any_fold : (test : TryRange → Bool) (acc rs : List TryRange) → list_any test (fold put acc rs) ≡ (list_any test acc || list_any test rs)
any_fold test acc [] = sym (or_none (list_any test acc))
any_fold test acc (r ∷ rs) =
    any_fold test (put acc r) rs ∙ (ap (λ (x : Bool). x || list_any test rs) (any_put test acc r) ∙ or_swap (test r) (list_any test acc) (list_any test rs))

-- a test passes at one of the ranges by their starts where it passes at one of the ranges
pub any_sorted : (test : TryRange → Bool) (rs : List TryRange) → list_any test (fold with_range [] rs) ≡ list_any test rs
any_sorted test rs = ap (list_any test) (folds_alike [] rs) ∙ any_fold test [] rs

-- ---- whether a range overlaps one of those that are apart: the last one that starts before its end tells

-- what a look-up from the end of the starts before an address finds
abbrev pub FoundBefore : Option (ℕ × ℕ) → List (ℕ × ℕ) → List (ℕ × ℕ) → Type 0
FoundBefore None found rest = found ≡ []
FoundBefore (Some v) found rest = found ≡ rest ++ v ∷ []

not_before : (r : TryRange) (e : ℕ × ℕ) → r.end ≤ e.0 → overlaps r (range_in e) ≡ false
not_before r e above = grind (arith, nat_tests)

module _ (r : TryRange) (test : ℕ × ℕ → Bool) (tells : (e : ℕ × ℕ) → test e ≡ nat_lt e.0 r.end) where
  passes_not : (e : ℕ × ℕ) → test e ≡ false → overlaps r (range_in e) ≡ false
  passes_not e fails = let above : r.end ≤ e.0 = grind (arith, nat_tests, tells e) in not_before r e above

  pub none_before : (es : List (ℕ × ℕ)) → filter test es ≡ [] → list_any (overlaps r) (ranges_in es) ≡ false
  none_before [] none = refl
  none_before (e ∷ es) none = at (test e) refl none (none_before es)
    where
      at : (b : Bool) → test e ≡ b → cond b (e ∷ filter test es) (filter test es) ≡ [] → (filter test es ≡ [] → list_any (overlaps r) (ranges_in es) ≡ false) → (overlaps r (range_in e) || list_any (overlaps r) (ranges_in es)) ≡ false
      at true is none later = absurd (cc)
      at false is none later = ap (λ (x : Bool). x || list_any (overlaps r) (ranges_in es)) (passes_not e is) ∙ later none

  -- the last of the ranges that start before the end
  record IsLast (es : List (ℕ × ℕ)) (v : ℕ × ℕ) : Type 0 where
    any : list_any (overlaps r) (ranges_in es) ≡ overlaps r (range_in v)
    below : v.0 < r.end
    some : v.0 < v.1
    behind : (n : ℕ) → StartFrom n es → n ≤ v.0

  only_one : (e v : ℕ × ℕ) (es : List (ℕ × ℕ)) → test e ≡ true → e ≡ v → filter test es ≡ [] → AreApart (e ∷ es) → IsLast (e ∷ es) v
  only_one e v es is same none apart =
      let P : ℕ × ℕ → Type 0 = λ x. IsLast (e ∷ es) x in
      subst P same (record {
        any = ap (λ (x : Bool). overlaps r (range_in e) || x) (none_before es none) ∙ or_none (overlaps r (range_in e));
        below = grind (arith, nat_tests, tells e);
        some = apart.0;
        behind = λ n from. from.0;
      })

  earlier_too : (e v : ℕ × ℕ) → e.1 ≤ v.0 → v.0 < r.end → v.0 < v.1 → overlaps r (range_in e) ≡ true → overlaps r (range_in v) ≡ true
  earlier_too e v behind below some here = grind (arith, nat_tests)

  one_more : (e v : ℕ × ℕ) (es : List (ℕ × ℕ)) → AreApart (e ∷ es) → IsLast es v → IsLast (e ∷ es) v
  one_more e v es apart last = record {
    any = at (overlaps r (range_in e)) refl;
    below = last.below;
    some = last.some;
    behind = λ n from. last.behind n from.1;
  }
    where
      at : (b : Bool) → overlaps r (range_in e) ≡ b → (b || list_any (overlaps r) (ranges_in es)) ≡ overlaps r (range_in v)
      at true is = sym (earlier_too e v (last.behind e.1 apart.1) last.below last.some is)
      at false is = last.any

  skipped : (e v : ℕ × ℕ) (es : List (ℕ × ℕ)) → test e ≡ false → IsLast es v → IsLast (e ∷ es) v
  skipped e v es is last = record {
    any = ap (λ (x : Bool). x || list_any (overlaps r) (ranges_in es)) (passes_not e is) ∙ last.any;
    below = last.below;
    some = last.some;
    behind = λ n from. last.behind n from.1;
  }

  last_before : (es rest : List (ℕ × ℕ)) (v : ℕ × ℕ) → AreApart es → filter test es ≡ rest ++ v ∷ [] → IsLast es v
  last_before [] [] v apart found = absurd (cc)
  last_before [] (x ∷ rest) v apart found = absurd (cc)
  last_before (e ∷ es) rest v apart found = at (test e) rest refl found (λ before is. last_before es before v apart.2 is)
    where
      at : (b : Bool) (rest : List (ℕ × ℕ)) → test e ≡ b → cond b (e ∷ filter test es) (filter test es) ≡ rest ++ v ∷ [] → ((before : List (ℕ × ℕ)) → filter test es ≡ before ++ v ∷ [] → IsLast es v) → IsLast (e ∷ es) v
      at true [] is found later = let same : e ≡ v = cc in let none : filter test es ≡ [] = cc in only_one e v es is same none apart
      at true (x ∷ rest) is found later = let tail : filter test es ≡ rest ++ v ∷ [] = cc in one_more e v es apart (later rest tail)
      at false rest is found later = skipped e v es is (later rest found)

  pub last_tells : (es rest : List (ℕ × ℕ)) (v : ℕ × ℕ) → AreApart es → filter test es ≡ rest ++ v ∷ [] → list_any (overlaps r) (ranges_in es) ≡ overlaps r (range_in v)
  last_tells es rest v apart found = (last_before es rest v apart found).any

-- ---- a range that overlaps none of those that are apart, put into the map

from_less : (m n : ℕ) (es : List (ℕ × ℕ)) → m ≤ n → StartFrom n es → StartFrom m es
from_less m n [] less h = tt
from_less m n (e ∷ es) less h = let above = h.0 in (omega arith, from_less m n es less h.1)

or_parts : (a b : Bool) → (a || b) ≡ false → (a ≡ false) × (b ≡ false)
or_parts true b e = absurd (cc)
or_parts false b e = (refl, e)

record IsPut (r : TryRange) (es new : List (ℕ × ℕ)) : Type 0 where
  pub ranges : ranges_in new ≡ put (ranges_in es) r
  pub apart : AreApart new
  pub behind : (n : ℕ) → n ≤ r.start → StartFrom n es → StartFrom n new

put_before : (r : TryRange) (e : ℕ × ℕ) (es : List (ℕ × ℕ)) → r.start < r.end → r.start < e.0 → overlaps r (range_in e) ≡ false → AreApart (e ∷ es) → IsPut r (e ∷ es) ((r.start, r.end) ∷ e ∷ es)
put_before r e es some less free apart =
    let first : nat_le r.start e.0 ≡ true = grind (arith, nat_tests) in
    let other : is_same (range_in e) r ≡ false = other_start_above (range_in e) r less in
    let full = apart.0 in
    let ends : r.end ≤ e.0 = grind (arith, nat_tests) in
    let within : r.end ≤ e.1 = omega arith in
    record {
      ranges = sym ((λ i. put_by (first i) (is_same (range_in e) r) r (range_in e) (ranges_in es) (put (ranges_in es) r)) ∙ ap (λ (c : Bool). put_by true c r (range_in e) (ranges_in es) (put (ranges_in es) r)) other);
      apart = (some, (ends, from_less r.end e.1 es within apart.1), apart);
      behind = λ n below from. (below, from);
    }

put_same : (r : TryRange) (e : ℕ × ℕ) (es : List (ℕ × ℕ)) → r.start < r.end → r.start ≡ e.0 → overlaps r (range_in e) ≡ false → AreApart (e ∷ es) → IsPut r (e ∷ es) ((e.0, r.end) ∷ es)
put_same r e es some level free apart =
    let first : nat_le r.start e.0 ≡ true = grind (arith, nat_tests) in
    let full = apart.0 in
    let ends : r.end ≡ e.1 = grind (arith, nat_tests) in
    let same : is_same (range_in e) r ≡ true = grind (arith, nat_tests) in
    let P : ℕ → Type 0 = λ n. IsPut r (e ∷ es) ((e.0, n) ∷ es) in
    subst P (sym ends) (record {
      ranges = sym ((λ i. put_by (first i) (is_same (range_in e) r) r (range_in e) (ranges_in es) (put (ranges_in es) r)) ∙ ap (λ (c : Bool). put_by true c r (range_in e) (ranges_in es) (put (ranges_in es) r)) same);
      apart = apart;
      behind = λ n below from. from;
    })

put_behind : (r : TryRange) (e : ℕ × ℕ) (es new : List (ℕ × ℕ)) → r.start < r.end → e.0 < r.start → overlaps r (range_in e) ≡ false → AreApart (e ∷ es) → IsPut r es new → IsPut r (e ∷ es) (e ∷ new)
put_behind r e es new some less free apart rest =
    let later : nat_le r.start e.0 ≡ false = grind (arith, nat_tests) in
    let full = apart.0 in
    let ends : e.1 ≤ r.start = grind (arith, nat_tests) in
    record {
      ranges = ap (λ (rs : List TryRange). range_in e ∷ rs) rest.ranges ∙ sym (ap (λ (b : Bool). put_by b (is_same (range_in e) r) r (range_in e) (ranges_in es) (put (ranges_in es) r)) later);
      apart = (full, rest.behind e.1 ends apart.1, rest.apart);
      behind = λ n below from. (from.0, rest.behind n below from.1);
    }

put_entry : (r : TryRange) (es : List (ℕ × ℕ)) → r.start < r.end → AreApart es → list_any (overlaps r) (ranges_in es) ≡ false → IsPut r es (insert_entry nat_cmp es r.start r.end)
put_entry r [] some apart none = record { ranges = refl; apart = (some, tt, tt); behind = λ n below from. (below, tt) }
put_entry r (e ∷ es) some apart none =
    let parts = or_parts (overlaps r (range_in e)) (list_any (overlaps r) (ranges_in es)) none in
    at (nat_cmp r.start e.0) (ranked r.start e.0 (nat_cmp r.start e.0) refl) parts.0 (put_entry r es some apart.2 parts.1)
  where
    at : (o : Ordering) → MatchOrdering o (r.start < e.0) (r.start ≡ e.0) (e.0 < r.start) → overlaps r (range_in e) ≡ false → IsPut r es (insert_entry nat_cmp es r.start r.end) → IsPut r (e ∷ es) (match_ordering o ((r.start, r.end) ∷ e ∷ es) ((e.0, r.end) ∷ es) (e ∷ insert_entry nat_cmp es r.start r.end))
    at Less less free rest = put_before r e es some less free apart
    at Equal level free rest = put_same r e es some level free apart
    at Greater less free rest = put_behind r e es (insert_entry nat_cmp es r.start r.end) some less free apart rest

-- one more range in its place
pub put_apart : (r : TryRange) (es new : List (ℕ × ℕ)) → r.start < r.end → AreApart es → list_any (overlaps r) (ranges_in es) ≡ false → new ≡ insert_entry nat_cmp es r.start r.end → AreApart new × (ranges_in new ≡ with_range (ranges_in es) r)
put_apart r es new some apart none is =
    let P : List (ℕ × ℕ) → Type 0 = λ xs. AreApart xs × (ranges_in xs ≡ with_range (ranges_in es) r) in
    let done = put_entry r es some apart none in
    subst P (sym is) (done.apart, done.ranges ∙ sym (with_is_put (ranges_in es) r))

pub is_some_range : (r : TryRange) → is_empty r ≡ false → r.start < r.end
is_some_range r not = grind (arith, nat_tests)

-- whether a start is before an end, as a look-up between bounds tells
pub before_end : (end n : ℕ) → range_contains nat_cmp Unbounded (Excluded end) n ≡ nat_lt n end
before_end end n = at (nat_cmp end n) (ranked end n (nat_cmp end n) refl)
  where
    at : (o : Ordering) → MatchOrdering o (end < n) (end ≡ n) (n < end) → not (is_le o) ≡ nat_lt n end
    at Less less = grind (arith, nat_tests)
    at Equal level = grind (arith, nat_tests)
    at Greater less = grind (arith, nat_tests)
