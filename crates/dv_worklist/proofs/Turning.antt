-- The worklist begins with the entry, goes on with the lowest place that waits, and ends where none waits.
use Rattle.std.proofs.Common.{◌≡◌, ◌<◌, ◌+◌, ℕ, Bool, false, cond, List, length, Option, Some, None, refl, ◌∙◌, subst, arith, inl, inr, set, replicate}
use Rattle.std.proofs.lemmas.Bool.{cases_eq, cases_lt}
use Rattle.std.proofs.lemmas.List.{get_or-set_other, get_or_past}
use Rattle.std.proofs.Math.ListN.{length-set}
use Rattle.std.proofs.lemmas.List.Sums.{sum_by-set}
use Rattle.std.proofs.lemmas.Grind.{common_steps}
use Rattle.dv_worklist.specs.Flow.{Flow, assigned, HasAbove, IsLeast, IsLawful}
use Rattle.dv_worklist.specs.Waiting.{Waits, NoneWaits}
use Rattle.dv_worklist.specs.Work.{rises, states_after, waiting_after, IsPartly, none_busy, busy_at, count_waiting, IsTurn, IsBegun}
use Rattle.dv_worklist.proofs.Rising.{turned, has_after}

none_at : {S : Type 0} (n k : ℕ) → assigned {S = S} (replicate n None) k ≡ None
none_at {S} n k = grind (arith, common_steps)

started : {S : Type 0} (f : Flow S) (fits : ℕ → S → Type 0) → IsPartly f fits none_busy (replicate f.size None) (replicate f.size false)
started {S} f fits = record {
  long = grind (arith, common_steps);
  flagged = grind (arith, common_steps);
  fit = λ k s e. absurd (let h = none_at {S = S} f.size k in cc);
  settled = λ k s e. absurd (let h = none_at {S = S} f.size k in cc);
  least = λ b c k s e. absurd (let h = none_at {S = S} f.size k in cc);
}

pub none_yet : {S : Type 0} (f : Flow S) (fits : ℕ → S → Type 0) (xs : List (Option S)) (flags : List Bool) → xs ≡ replicate f.size None → flags ≡ replicate f.size false → IsPartly f fits none_busy xs flags
none_yet {S} f fits xs flags x n = rw (x, n) (started f fits)

-- the first place has the entry's state, and waits
pub first_step : {S : Type 0} (f : Flow S) (fits : ℕ → S → Type 0) (rank : S → ℕ) (top : ℕ) → IsLawful f fits rank top →
    (xs : List (Option S)) (flags : List Bool) (s : S) (ys : List (Option S)) (later : List Bool) → 0 < f.size →
    xs ≡ replicate f.size None → flags ≡ replicate f.size false → s ≡ f.entry →
    ys ≡ states_after f xs 0 s → later ≡ waiting_after f xs flags 0 s → IsBegun f fits ys later
first_step {S} f fits rank top law xs flags s ys later h x n e y z =
    let p = none_yet f fits xs flags x n in
    let v : fits 0 s = rw e law.entry_fits in
    let inside : 0 < length xs = omega (arith, p.long) in
    let flag : 0 < length flags = omega (arith, p.flagged) in
    let t : IsTurn f fits rank top none_busy xs flags (states_after f xs 0 s) (waiting_after f xs flags 0 s) =
    turned f fits rank top none_busy law xs flags 0 s inside flag v (λ b c. rw e c.entry) p (rises f (assigned xs 0) s) refl in
    let a : HasAbove f (assigned (states_after f xs 0 s)) 0 s = has_after f fits rank top law xs 0 s inside v p.fit (rises f (assigned xs 0) s) refl in
    record { partly = rw (y, z) t.partly; entry = rw y (subst (λ (u : S). HasAbove f (assigned (states_after f xs 0 s)) 0 u) e a) }

-- a place that waits is one of the places
pub waits_within : (flags : List Bool) (place : ℕ) → Waits flags place → place < length flags
waits_within flags place w =
    elim (cases_lt place (length flags)) [
      | inl h ↦ h
      | inr h ↦ absurd (let z = get_or_past flags place false h in cc)
    ]

-- a place is taken from those that wait
pub opened : {S : Type 0} (f : Flow S) (fits : ℕ → S → Type 0) (xs : List (Option S)) (flags : List Bool) (place : ℕ) (later : List Bool) →
    later ≡ set flags place false → IsPartly f fits none_busy xs flags → IsPartly f fits (busy_at place xs) xs later
opened {S} f fits xs flags place later taken p = rw taken record {
  long = p.long;
  flagged = length-set flags place false ∙ p.flagged;
  fit = p.fit;
  settled = λ k v e. elim (cases_eq k place) [
    | inl q ↦ inr (inl (q, subst (λ (i : ℕ). assigned xs i ≡ Some v) q e))
    | inr n ↦ elim (p.settled k v e) [
      | inl c ↦ inl (get_or-set_other flags place k false false n ∙ c)
      | inr (inl b) ↦ absurd b
      | inr (inr g) ↦ inr (inr g)
    ]
  ];
  least = p.least;
}

-- and one less waits
pub taken_less : (flags : List Bool) (place : ℕ) (later : List Bool) → Waits flags place → later ≡ set flags place false → count_waiting later + 1 ≡ count_waiting flags
taken_less flags place later w taken =
    let e = rw w at (sum_by-set (λ flag. cond flag 1 0) flags place false false (waits_within flags place w)) in
    rw taken (omega (arith, e))

-- what the turn of a place keeps
pub next_step : {S : Type 0} (f : Flow S) (fits : ℕ → S → Type 0) (rank : S → ℕ) (top : ℕ)
    (xs : List (Option S)) (flags : List Bool) (ys : List (Option S)) (later : List Bool) →
    HasAbove f (assigned xs) 0 f.entry → IsTurn f fits rank top none_busy xs flags ys later → IsBegun f fits ys later
next_step {S} f fits rank top xs flags ys later a t = record {
  partly = t.partly;
  entry = t.grown 0 f.entry a;
}

-- no place waits and none is busy: the assignment is the least
pub ended : {S : Type 0} (f : Flow S) (fits : ℕ → S → Type 0) (xs : List (Option S)) (flags : List Bool) →
    NoneWaits flags → IsBegun f fits xs flags → IsLeast f (assigned xs)
ended {S} f fits xs flags none b = record {
  closed = record {
    entry = b.entry;
    arrives = λ k s e. elim (b.partly.settled k s e) [
      | inl c ↦ absurd (let z = none k in cc)
      | inr (inl o) ↦ absurd o
      | inr (inr g) ↦ g
    ];
  };
  least = b.partly.least;
}
