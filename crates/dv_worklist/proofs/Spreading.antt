-- What goes on from one place arrives, piece by piece.
use Rattle.std.proofs.Common.{◌≡◌, ◌<◌, ◌≤◌, ◌+◌, ℕ, List, length, Option, Some, None, Bool, refl, sym, ◌∙◌, subst, arith, inl, inr}
use Rattle.std.specs.Prelude.{slice_get}
use Rattle.std.proofs.lemmas.Bool.{cases_eq}
use Rattle.std.proofs.lemmas.Option.{same_Some, slice_get_within}
use Rattle.dv_worklist.specs.Flow.{Onward, Flow, Assignment, assigned, HasAbove, Arrives, IsClosed, IsLawful}
use Rattle.dv_worklist.specs.Work.{goes_on, IsPartly, none_busy, busy_at, IsTurn, IsSpread, IsArrival}
use Rattle.dv_worklist.proofs.Arriving.{arrived}

-- what goes on fits where it arrives, and each closed assignment has a state above it there
pub record IsOwed {S : Type 0} (f : Flow S) (fits : ℕ → S → Type 0) (o : Onward S) : Type 0 where
  pub fit : fits o.to o.state
  pub inside : o.to < f.size
  pub bound : (b : Assignment S) → IsClosed f b → HasAbove f b o.to o.state

owed_from : {S : Type 0} (f : Flow S) (fits : ℕ → S → Type 0) (rank : S → ℕ) (top : ℕ) → IsLawful f fits rank top →
    (at : ℕ) (old : Option S) → ((s : S) → old ≡ Some s → fits at s) →
    ((b : Assignment S) → IsClosed f b → (s : S) → old ≡ Some s → HasAbove f b at s) →
    (k : ℕ) (o : Onward S) → slice_get (goes_on f at old) k ≡ Some o → IsOwed f fits o
owed_from {S} f fits rank top law at None fit least k o g = absurd (cc)
owed_from {S} f fits rank top law at (Some s) fit least k o g =
    let here = law.onward_fits at s (fit s refl) k o g in
    record {
      fit = here.0;
      inside = here.1;
      bound = λ b closed.
          let a : HasAbove f b at s = least b closed s refl in
          let p = law.monotone at s a.state (fit s refl) a.above k o g in
          let c : HasAbove f b p.0.to p.0.state = closed.arrives at a.state a.there k p.0 p.1 in
          record {
            state = c.state;
            there = subst (λ (i : ℕ). b i ≡ Some c.state) p.2 c.there;
            above = law.order.trans o.state p.0.state c.state p.3 c.above;
          };
    }

pub owed : {S : Type 0} (f : Flow S) (fits : ℕ → S → Type 0) (rank : S → ℕ) (top : ℕ) (busy : ℕ → S → Type 0) → IsLawful f fits rank top →
    (at : ℕ) (xs : List (Option S)) (flags : List Bool) → IsPartly f fits busy xs flags →
    (k : ℕ) (o : Onward S) → slice_get (goes_on f at (assigned xs at)) k ≡ Some o → IsOwed f fits o
owed {S} f fits rank top busy law at xs flags p =
    owed_from f fits rank top law at (assigned xs at) (p.fit at) (λ b closed s e. p.least b closed at s e)

-- nothing has arrived yet
pub spread_none : {S : Type 0} (f : Flow S) (fits : ℕ → S → Type 0) (rank : S → ℕ) (top at : ℕ) (xs : List (Option S)) (flags : List Bool) →
    IsPartly f fits (busy_at at xs) xs flags → IsSpread f fits rank top at xs flags 0 xs flags
spread_none {S} f fits rank top at xs flags p = record {
  turn = record {
    partly = p;
    grown = λ k s a. a;
    less = omega arith;
  };
  arrived = λ j o b y. absurd (omega arith);
}

-- one more arrives
pub spread_more : {S : Type 0} (f : Flow S) (fits : ℕ → S → Type 0) (rank : S → ℕ) (top : ℕ) → IsLawful f fits rank top →
    (at : ℕ) (xs : List (Option S)) (flags : List Bool) (k : ℕ) (ys : List (Option S)) (later : List Bool) (o : Onward S) (zs : List (Option S)) (last : List Bool) →
    IsPartly f fits (busy_at at xs) xs flags → slice_get (goes_on f at (assigned xs at)) k ≡ Some o →
    IsArrival f fits ys later o.to o.state zs last →
    IsSpread f fits rank top at xs flags k ys later → IsSpread f fits rank top at xs flags (k + 1) zs last
spread_more {S} f fits rank top law at xs flags k ys later o zs last p g arrival sp =
    let due : IsOwed f fits o = owed f fits rank top (busy_at at xs) law at xs flags p k o g in
    let now = arrived f fits rank top (busy_at at xs) law ys later o.to due.inside o.state due.bound sp.turn.partly due.fit zs last arrival in
    record {
      turn = record {
        partly = now.turn.partly;
        grown = λ i v a. now.turn.grown i v (sp.turn.grown i v a);
        less = omega (arith, now.turn.less, sp.turn.less);
      };
      arrived = λ j x b y. elim (cases_eq j k) [
        | inl q ↦
            let same : x ≡ o = same_Some x o (sym y ∙ subst (λ (i : ℕ). slice_get (goes_on f at (assigned xs at)) i ≡ Some o) (sym q) g) in
            subst (λ (z : Onward S). HasAbove f (assigned zs) z.to z.state) (sym same) now.has
        | inr n ↦ now.turn.grown x.to x.state (sp.arrived j x (omega arith) y)
      ];
    }

-- the place is no more busy once all has arrived
shut : {S : Type 0} (f : Flow S) (fits : ℕ → S → Type 0) (at : ℕ) (xs ys : List (Option S)) (flags : List Bool) →
    IsPartly f fits (busy_at at xs) ys flags →
    ((j : ℕ) (o : Onward S) → slice_get (goes_on f at (assigned xs at)) j ≡ Some o → HasAbove f (assigned ys) o.to o.state) →
    IsPartly f fits none_busy ys flags
shut {S} f fits at xs ys flags p all = record {
  long = p.long;
  flagged = p.flagged;
  fit = p.fit;
  settled = λ k v e. elim (p.settled k v e) [
    | inl c ↦ inl c
    | inr (inl b) ↦
        let here : Arrives f (assigned ys) at v = λ j o y. all j o (subst (λ (old : Option S). slice_get (goes_on f at old) j ≡ Some o) (sym b.1) y) in
        inr (inr (subst (λ (i : ℕ). Arrives f (assigned ys) i v) (sym b.0) here))
    | inr (inr g) ↦ inr (inr g)
  ];
  least = p.least;
}

pub spread_all : {S : Type 0} (f : Flow S) (fits : ℕ → S → Type 0) (rank : S → ℕ) (top at : ℕ) (xs : List (Option S)) (flags : List Bool) (k : ℕ) (ys : List (Option S)) (later : List Bool) →
    length (goes_on f at (assigned xs at)) ≤ k → IsSpread f fits rank top at xs flags k ys later → IsTurn f fits rank top none_busy xs flags ys later
spread_all {S} f fits rank top at xs flags k ys later all sp = record {
  partly = shut f fits at xs ys later sp.turn.partly (λ j o y. sp.arrived j o (let i = slice_get_within (goes_on f at (assigned xs at)) j o y in omega arith) y);
  grown = sp.turn.grown;
  less = sp.turn.less;
}
