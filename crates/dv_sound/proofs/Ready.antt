-- The lowest thread that is ready.
use Rattle.std.proofs.Common.{◌≡◌, ◌≢◌, ◌<◌, ◌+◌, ℕ, Bool, true, false, All, refl, subst, arith}
use Rattle.std.specs.Prelude.{length, nat_lt}
use Rattle.std.proofs.lemmas.Bool.{ltb-false, ltb-true}
use Rattle.std.proofs.lemmas.Option.{slice_get_within}
use Rattle.dv_machine.specs.Running.{runnable}
use Rattle.dv_machine.specs.State.{Machine}
use Rattle.dv_sound.specs.Runs.{IsReady, NoneIsReady, Run}
use Rattle.dv_sound.proofs.Going.{thread}

-- none of those below a number is
abbrev pub NoneBelow : Run → Machine → ℕ → Type 0
NoneBelow r m n = (u : ℕ) → u < n → runnable r.verified.image m u ≡ true → All (λ (t : ℕ). t ≢ u) r.lent → ⊥

pub none_first : (r : Run) (m : Machine) → NoneBelow r m 0
none_first r m u l runs home = absurd (omega (arith, l))

pub none_next : (r : Run) (m : Machine) (n : ℕ) → NoneBelow r m n → (runnable r.verified.image m n ≡ true → All (λ (t : ℕ). t ≢ n) r.lent → ⊥) → NoneBelow r m (n + 1)
none_next r m n before held u l runs home = by (nat_lt u n) refl
  where
    by : (b : Bool) → nat_lt u n ≡ b → ⊥
    by true e = before u (ltb-true u n e) runs home
    by false e =
        let same : u ≡ n = (let late = ltb-false u n e in omega (arith, l, late)) in
        held (subst (λ k. runnable r.verified.image m k ≡ true) same runs) (subst (λ k. All (λ (t : ℕ). t ≢ k) r.lent) same home)

pub none_ready : (r : Run) (m : Machine) → NoneBelow r m (length m.threads) → NoneIsReady r m
none_ready r m none u runs home =
    let th = thread r.verified.image m u runs in
    none u (slice_get_within m.threads u th.0 th.1) runs home

pub is_lowest : (r : Run) (m : Machine) (n : ℕ) → NoneBelow r m n → (runnable r.verified.image m n ≡ true) × All (λ (t : ℕ). t ≢ n) r.lent → IsReady r m n
is_lowest r m n none ready = record { runs = ready.0; at_home = ready.1; lowest = none }
