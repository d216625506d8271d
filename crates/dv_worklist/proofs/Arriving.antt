-- A state arrives at a place, and what that implies behind it.
use Rattle.std.proofs.Common.{◌≡◌, ◌<◌, ℕ, List, length, Option, Some, None, Bool, true, false, cond, refl, sym, subst, arith, inl, inr, set}
use Rattle.dv_worklist.specs.Flow.{Flow, Assignment, assigned, HasAbove, AllFit, IsClosed, IsLawful}
use Rattle.dv_worklist.specs.Work.{rises, raised, states_after, waiting_after, states_with, waiting_with, IsPartly, IsTurn, IsMore, IsArrival}
use Rattle.dv_worklist.proofs.Rising.{turned, has_after, higher, at_set}

module _ {S : Type 0} (f : Flow S) (fits : ℕ → S → Type 0) (rank : S → ℕ) (top : ℕ) (busy : ℕ → S → Type 0) (law : IsLawful f fits rank top) where
  -- the turn raised places, and one of them now has a state above s
  pub record IsBrought (xs : List (Option S)) (flags : List Bool) (place : ℕ) (s : S) (ys : List (Option S)) (later : List Bool) : Type 0 where
    pub turn : IsTurn f fits rank top busy xs flags ys later
    pub has : HasAbove f (assigned ys) place s

  module _ (xs : List (Option S)) (flags : List Bool) (place : ℕ) (inside : place < f.size) where
    -- one state
    brought : (s : S) → fits place s → ((b : Assignment S) → IsClosed f b → HasAbove f b place s) → IsPartly f fits busy xs flags →
        IsBrought xs flags place s (states_after f xs place s) (waiting_after f xs flags place s)
    brought s fit bound p =
        let here : place < length xs = omega (arith, inside, p.long) in
        let flag : place < length flags = omega (arith, inside, p.flagged) in
        record {
          turn = turned f fits rank top busy law xs flags place s here flag fit bound p (rises f (assigned xs place) s) refl;
          has = has_after f fits rank top law xs place s here fit p.fit (rises f (assigned xs place) s) refl;
        }

  module _ (xs : List (Option S)) (flags : List Bool) (place : ℕ) (inside : place < f.size) (s : S) (bound : (b : Assignment S) → IsClosed f b → HasAbove f b place s) (p : IsPartly f fits busy xs flags) where
    abbrev Ys : List (Option S)
    Ys = states_after f xs place s

    abbrev Later : List Bool
    Later = waiting_after f xs flags place s

    -- and more behind it
    with_more : IsBrought xs flags place s Ys Later → (more : Option S) → IsMore f fits xs place s more →
        IsBrought xs flags place s (states_with f Ys place more) (waiting_with f Ys Later place more)
    with_more first None implied = first
    with_more first (Some m) (old, there, is) =
        let second = brought Ys Later place inside m is.fit (λ b closed. is.bound b closed (p.least b closed place old there) (bound b closed)) first.turn.partly in
        record {
          turn = record {
            partly = second.turn.partly;
            grown = λ k t a. second.turn.grown k t (first.turn.grown k t a);
            less = omega (arith, first.turn.less, second.turn.less);
          };
          has = second.turn.grown place s first.has;
        }

    pub arrived : fits place s → (ys : List (Option S)) (later : List Bool) → IsArrival f fits xs flags place s ys later → IsBrought xs flags place s ys later
    arrived fit ys later a = rw (a.states, a.waiting) (with_more (brought xs flags place inside s fit bound p) a.more a.implied)

-- each state still fits
fit_by : {S : Type 0} (f : Flow S) (fits : ℕ → S → Type 0) (rank : S → ℕ) (top : ℕ) → IsLawful f fits rank top →
    (xs : List (Option S)) (place : ℕ) (s : S) → place < length xs → fits place s → AllFit fits (assigned xs) →
    (b : Bool) → rises f (assigned xs place) s ≡ b →
    AllFit fits (assigned (cond b (set xs place (Some (raised f (assigned xs place) s))) xs))
fit_by {S} f fits rank top law xs place s inside here all true r k t e =
    let high = raised f (assigned xs place) s in
    elim (at_set xs place high inside k t e) [
      | inl q ↦
          let fit : fits place high = (higher f fits rank top law place (assigned xs place) s (all place) here r).fit in
          subst (λ (i : ℕ). fits i t) (sym q.0) (subst (λ (x : S). fits place x) (sym q.1) fit)
      | inr q ↦ all k t q.1
    ]
fit_by {S} f fits rank top law xs place s inside here all false r k t e = all k t e

pub fit_after : {S : Type 0} (f : Flow S) (fits : ℕ → S → Type 0) (rank : S → ℕ) (top : ℕ) → IsLawful f fits rank top →
    (xs : List (Option S)) (place : ℕ) (s : S) (ys : List (Option S)) → place < length xs → fits place s → AllFit fits (assigned xs) →
    ys ≡ states_after f xs place s → AllFit fits (assigned ys)
fit_after {S} f fits rank top law xs place s ys inside here all e =
    rw e (fit_by f fits rank top law xs place s inside here all (rises f (assigned xs place) s) refl)
