-- A place that rises keeps what is known of the worklist.
use Rattle.std.proofs.Common.{◌≡◌, ◌≢◌, ◌<◌, ◌≤◌, ℕ, Bool, true, false, cond, List, length, Option, Some, None, refl, sym, ◌∙◌, subst, arith, inl, inr, ◌⊎◌, set}
use Rattle.std.proofs.lemmas.Bool.{cases_eq, not-true, not-false}
use Rattle.std.proofs.lemmas.List.{get_or-set_same, get_or-set_other}
use Rattle.std.proofs.Math.ListN.{length-set}
use Rattle.std.proofs.lemmas.List.Sums.{sum_by-set}
use Rattle.std.proofs.lemmas.Option.{same_Some}
use Rattle.dv_worklist.specs.Flow.{Flow, Assignment, assigned, HasAbove, AllFit, IsClosed, IsLawful}
use Rattle.dv_worklist.specs.Waiting.{Waits}
use Rattle.dv_worklist.specs.Work.{rises, raised, IsPartly, IsGrown, room, work_left, IsTurn}

-- high is the least state above s and above what the place has
pub record IsHigher {S : Type 0} (f : Flow S) (fits : ℕ → S → Type 0) (rank : S → ℕ) (top place : ℕ) (old : Option S) (s high : S) : Type 0 where
  pub fit : fits place high
  pub above : f.under s high ≡ true
  pub over : (t : S) → old ≡ Some t → f.under t high ≡ true
  pub lowest : (u : S) → f.under s u ≡ true → ((t : S) → old ≡ Some t → f.under t u ≡ true) → f.under high u ≡ true
  pub falls : rank high < room rank top old

-- a state that is not yet above another falls in rank when they are joined
falls : {S : Type 0} (f : Flow S) (fits : ℕ → S → Type 0) (rank : S → ℕ) (top : ℕ) → IsLawful f fits rank top →
    (place : ℕ) (s t : S) → fits place s → fits place t → f.under t s ≡ false → rank (f.join s t) < rank s
falls {S} f fits rank top law place s t h k e =
    elim (law.order.near place s (f.join s t) h (law.order.joined place s t h k) (law.order.first place s t h k)) [
      | inl q ↦ absurd (let z : f.under t s ≡ true = subst (λ (x : S). f.under t x ≡ true) (sym q) (law.order.second place s t h k) in cc)
      | inr l ↦ l
    ]

pub higher : {S : Type 0} (f : Flow S) (fits : ℕ → S → Type 0) (rank : S → ℕ) (top : ℕ) → IsLawful f fits rank top →
    (place : ℕ) (old : Option S) (s : S) → ((t : S) → old ≡ Some t → fits place t) → fits place s → rises f old s ≡ true →
    IsHigher f fits rank top place old s (raised f old s)
higher {S} f fits rank top law place None s g h r = record {
  fit = h;
  above = law.order.same s;
  over = λ t e. absurd (cc);
  lowest = λ u a o. a;
  falls = law.below place s h;
}
higher {S} f fits rank top law place (Some old) s g h r = record {
  fit = law.order.joined place old s (g old refl) h;
  above = law.order.second place old s (g old refl) h;
  over = λ t e. subst (λ (x : S). f.under x (f.join old s) ≡ true) (same_Some old t e) (law.order.first place old s (g old refl) h);
  lowest = λ u a o. law.order.lowest place old s u (g old refl) h (o old refl) a;
  falls = falls f fits rank top law place old s (g old refl) h (not-true _ r);
}

-- the state of each place after one was set
pub at_set : {S : Type 0} (xs : List (Option S)) (place : ℕ) (high : S) → place < length xs →
    (k : ℕ) (s : S) → assigned (set xs place (Some high)) k ≡ Some s →
    ((k ≡ place) × (s ≡ high)) ⊎ ((k ≢ place) × (assigned xs k ≡ Some s))
at_set {S} xs place high h k s e =
    elim (cases_eq k place) [
      | inl q ↦ inl (q, same_Some s high (sym e ∙ subst (λ (i : ℕ). assigned (set xs place (Some high)) i ≡ Some high) (sym q) (get_or-set_same xs place (Some high) None h)))
      | inr n ↦ inr (n, sym (get_or-set_other xs place k (Some high) None n) ∙ e)
    ]

-- a place that is added waits, and each that waited still does
added : (flags : List Bool) (place k : ℕ) → place < length flags → (k ≡ place) ⊎ Waits flags k → Waits (set flags place true) k
added flags place k h w =
    elim (cases_eq k place) [
      | inl q ↦ subst (λ (i : ℕ). Waits (set flags place true) i) (sym q) (get_or-set_same flags place true false h)
      | inr n ↦ get_or-set_other flags place k true false n ∙ elim w [ inl q ↦ absurd (n q) | inr v ↦ v ]
    ]

set_grown : {S : Type 0} (f : Flow S) (fits : ℕ → S → Type 0) (rank : S → ℕ) (top : ℕ) → IsLawful f fits rank top →
    (xs : List (Option S)) (place : ℕ) (s high : S) → place < length xs →
    IsHigher f fits rank top place (assigned xs place) s high → IsGrown f xs (set xs place (Some high))
set_grown {S} f fits rank top law xs place s high h up k v a =
    elim (cases_eq k place) [
      | inl q ↦
          let was : assigned xs place ≡ Some a.state = subst (λ (i : ℕ). assigned xs i ≡ Some a.state) q a.there in
          record {
            state = high;
            there = subst (λ (i : ℕ). assigned (set xs place (Some high)) i ≡ Some high) (sym q) (get_or-set_same xs place (Some high) None h);
            above = law.order.trans v a.state high a.above (up.over a.state was);
          }
      | inr n ↦ record {
        state = a.state;
        there = get_or-set_other xs place k (Some high) None n ∙ a.there;
        above = a.above;
      }
    ]

-- the place that rises waits then
rising : {S : Type 0} (f : Flow S) (fits : ℕ → S → Type 0) (rank : S → ℕ) (top : ℕ) (busy : ℕ → S → Type 0) → IsLawful f fits rank top →
    (xs : List (Option S)) (flags : List Bool) (place : ℕ) (s high : S) → place < length xs → place < length flags →
    ((b : Assignment S) → IsClosed f b → HasAbove f b place s) →
    IsHigher f fits rank top place (assigned xs place) s high → IsPartly f fits busy xs flags →
    IsPartly f fits busy (set xs place (Some high)) (set flags place true)
rising {S} f fits rank top busy law xs flags place s high h w bound up p = record {
  long = length-set xs place (Some high) ∙ p.long;
  flagged = length-set flags place true ∙ p.flagged;
  fit = λ k v e. elim (at_set xs place high h k v e) [
    | inl q ↦ subst (λ (i : ℕ). fits i v) (sym q.0) (subst (λ (x : S). fits place x) (sym q.1) up.fit)
    | inr q ↦ p.fit k v q.1
  ];
  settled = λ k v e. elim (at_set xs place high h k v e) [
    | inl q ↦ inl (added flags place k w (inl q.0))
    | inr q ↦ elim (p.settled k v q.1) [
      | inl c ↦ inl (added flags place k w (inr c))
      | inr (inl b) ↦ inr (inl b)
      | inr (inr g) ↦ inr (inr (λ j o y. set_grown f fits rank top law xs place s high h up o.to o.state (g j o y)))
    ]
  ];
  least = λ b closed k v e. elim (at_set xs place high h k v e) [
    | inl q ↦
        let a : HasAbove f b place s = bound b closed in
        let under : f.under high a.state ≡ true = up.lowest a.state a.above (λ t o.
        let c : HasAbove f b place t = p.least b closed place t o in
        let same : c.state ≡ a.state = same_Some c.state a.state (sym c.there ∙ a.there) in
        subst (λ (x : S). f.under t x ≡ true) same c.above) in
        record {
          state = a.state;
          there = subst (λ (i : ℕ). b i ≡ Some a.state) (sym q.0) a.there;
          above = subst (λ (x : S). f.under x a.state ≡ true) (sym q.1) under;
        }
    | inr q ↦ p.least b closed k v q.1
  ];
}

-- each rise takes at least one from what is left
set_less : {S : Type 0} (rank : S → ℕ) (top : ℕ) (xs : List (Option S)) (flags : List Bool) (place : ℕ) (high : S) → place < length xs → place < length flags →
    rank high < room rank top (assigned xs place) →
    work_left rank top (set xs place (Some high)) (set flags place true) ≤ work_left rank top xs flags
set_less {S} rank top xs flags place high h w less =
    omega (arith, sum_by-set (room rank top) xs place (Some high) None h, sum_by-set (λ flag. cond flag 1 0) flags place true false w)

pub turned : {S : Type 0} (f : Flow S) (fits : ℕ → S → Type 0) (rank : S → ℕ) (top : ℕ) (busy : ℕ → S → Type 0) → IsLawful f fits rank top →
    (xs : List (Option S)) (flags : List Bool) (place : ℕ) (s : S) → place < length xs → place < length flags → fits place s →
    ((b : Assignment S) → IsClosed f b → HasAbove f b place s) →
    IsPartly f fits busy xs flags →
    (b : Bool) → rises f (assigned xs place) s ≡ b →
    IsTurn f fits rank top busy xs flags (cond b (set xs place (Some (raised f (assigned xs place) s))) xs) (cond b (set flags place true) flags)
turned {S} f fits rank top busy law xs flags place s h w v bound p true r =
    let up : IsHigher f fits rank top place (assigned xs place) s (raised f (assigned xs place) s) = higher f fits rank top law place (assigned xs place) s (p.fit place) v r in
    record {
      partly = rising f fits rank top busy law xs flags place s (raised f (assigned xs place) s) h w bound up p;
      grown = set_grown f fits rank top law xs place s (raised f (assigned xs place) s) h up;
      less = set_less rank top xs flags place (raised f (assigned xs place) s) h w up.falls;
    }
turned {S} f fits rank top busy law xs flags place s h w v bound p false r = record {
  partly = p;
  grown = λ k u a. a;
  less = omega arith;
}

-- and the place then has a state above s
has_it : {S : Type 0} (f : Flow S) (old : Option S) (s : S) → rises f old s ≡ false → (t : S) × (old ≡ Some t) × (f.under s t ≡ true)
has_it f None s r = absurd (cc)
has_it f (Some t) s r = (t, refl, not-false _ r)

pub has_after : {S : Type 0} (f : Flow S) (fits : ℕ → S → Type 0) (rank : S → ℕ) (top : ℕ) → IsLawful f fits rank top →
    (xs : List (Option S)) (place : ℕ) (s : S) → place < length xs → fits place s → AllFit fits (assigned xs) →
    (b : Bool) → rises f (assigned xs place) s ≡ b →
    HasAbove f (assigned (cond b (set xs place (Some (raised f (assigned xs place) s))) xs)) place s
has_after {S} f fits rank top law xs place s h v fit true r = record {
  state = raised f (assigned xs place) s;
  there = get_or-set_same xs place (Some (raised f (assigned xs place) s)) None h;
  above = (higher f fits rank top law place (assigned xs place) s (fit place) v r).above;
}
has_after {S} f fits rank top law xs place s h v fit false r =
    let a = has_it f (assigned xs place) s r in
    record { state = a.0; there = a.1; above = a.2 }
