-- The flow of the numbers is lawful.
use Rattle.std.proofs.Common.{◌≡◌, ◌<◌, ◌≤◌, ℕ, zero, suc, max, Bool, true, ◌&&◌, leb, ltb, List, [], ◌∷◌, map, get_or, Some, refl, ap, subst, arith, inl, inr}
use Rattle.std.specs.Prelude.{slice_get}
use Rattle.std.proofs.lemmas.Bool.{cases_eq, leb-true, le-leb, ltb-true, and_parts}
use Rattle.std.proofs.lemmas.Option.{same_Some}
use Rattle.dv_worklist.specs.Flow.{Onward, IsLawful, IsImplied}
use Rattle.test_base.specs.Numbers.{all_ways, ways, brought, numbers, number_fits, number_rank}

-- what a higher number brings by the same way is above
monotone_at : (all : List (ℕ × ℕ)) (s t : ℕ) → s ≤ t → (k : ℕ) (o : Onward ℕ) → slice_get (map (brought s) all) k ≡ Some o →
    (p : Onward ℕ) × (slice_get (map (brought t) all) k ≡ Some p) × (p.to ≡ o.to) × (leb o.state p.state ≡ true)
monotone_at [] s t h k o e = absurd (cc)
monotone_at (way ∷ all) s t h zero o e =
    let same : brought s way ≡ o = same_Some (brought s way) o e in
    let above : leb (max s way.1) (max t way.1) ≡ true = le-leb _ _ (omega arith) in
    (brought t way, refl, ap (λ (x : Onward ℕ). x.to) same, subst (λ (x : Onward ℕ). leb x.state (max t way.1) ≡ true) same above)
monotone_at (way ∷ all) s t h (suc k) o e = monotone_at all s t h k o e

-- a way leads to a place, and brings a number up to 3
abbrev leads : ℕ × ℕ → Bool
leads way = ltb way.0 6 && ltb way.1 4

abbrev all_lead : List (ℕ × ℕ) → Bool
all_lead [] = true
all_lead (way ∷ all) = leads way && all_lead all

abbrev all_rows_lead : List (List (ℕ × ℕ)) → Bool
all_rows_lead [] = true
all_rows_lead (row ∷ rows) = all_lead row && all_rows_lead rows

row_leads : (rows : List (List (ℕ × ℕ))) (place : ℕ) → all_rows_lead rows ≡ true → all_lead (get_or rows place []) ≡ true
row_leads [] place e = refl
row_leads (row ∷ rows) zero e = (and_parts _ _ e).0
row_leads (row ∷ rows) (suc place) e = row_leads rows place (and_parts _ _ e).1

fits_at : (all : List (ℕ × ℕ)) (s : ℕ) → s < 4 → all_lead all ≡ true → (k : ℕ) (o : Onward ℕ) → slice_get (map (brought s) all) k ≡ Some o →
    (o.state < 4) × (o.to < 6)
fits_at [] s h a k o e = absurd (cc)
fits_at (way ∷ all) s h a zero o e =
    let here = and_parts (ltb way.0 6) (ltb way.1 4) (and_parts (leads way) (all_lead all) a).0 in
    let to : way.0 < 6 = ltb-true way.0 6 here.0 in
    let least : way.1 < 4 = ltb-true way.1 4 here.1 in
    subst (λ (x : Onward ℕ). (x.state < 4) × (x.to < 6)) (same_Some (brought s way) o e) (omega arith, omega arith)
fits_at (way ∷ all) s h a (suc k) o e = fits_at all s h (and_parts _ _ a).1 k o e

pub numbers_are_lawful : IsLawful numbers number_fits number_rank 4
numbers_are_lawful = record {
  order = record {
    same = λ s. le-leb _ _ (omega arith);
    trans = λ s t u a b. let x = leb-true _ _ a in let y = leb-true _ _ b in le-leb _ _ (omega arith);
    first = λ place s t a b. le-leb _ _ (omega arith);
    second = λ place s t a b. le-leb _ _ (omega arith);
    lowest = λ place s t u a b p q. let x = leb-true _ _ p in let y = leb-true _ _ q in le-leb _ _ (omega arith);
    joined = λ place s t a b. omega arith;
    near = λ place s t a b p. elim (cases_eq s t) [ inl q ↦ inl q | inr n ↦ let x = leb-true _ _ p in inr (omega arith) ];
  };
  monotone = λ place s t a p k o e. monotone_at (ways place) s t (leb-true _ _ p) k o e;
  entry_fits = omega arith;
  onward_fits = λ place s a k o e. fits_at (ways place) s a (row_leads all_ways place refl) k o e;
  below = λ place s a. omega arith;
}

-- what is at the first place of the loop comes back there as 1 or more
pub one_is_implied : (s t : ℕ) → IsImplied numbers number_fits 1 s t 1
one_is_implied s t = record {
  fit = omega arith;
  bound = λ b closed first second.
      let next = closed.arrives 1 first.state first.there 0 (brought first.state (2, 1)) refl in
      let back = closed.arrives 2 next.state next.there 0 (brought next.state (1, 0)) refl in
      let low = leb-true (max first.state 1) next.state next.above in
      let high = leb-true (max next.state 0) back.state back.above in
      record { state = back.state; there = back.there; above = le-leb 1 back.state (omega (arith, low, high)) };
}
