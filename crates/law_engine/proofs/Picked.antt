-- The thread that a word picks may step.
use Rattle.std.proofs.Common.{◌≡◌, ◌+◌, ◌/◌, ◌%◌, ◌<◌, ℕ, zero, suc, Bool, true, false, Option, Some, None, List, [], ◌∷◌, length, mod-lt, refl, sym, ap, ◌∙◌, arith}
use Rattle.std.specs.Prelude.{nat_eq, slice_get, slice_index_or}
use Rattle.dv_defs.specs.declared.run.Ending.{Ending}
use Rattle.dv_defs.specs.declared.run.Ending.TheVariants as ending
use Rattle.dv_defs.specs.Images.{Image}
use Rattle.dv_machine.specs.Replaying.{picked, runnable_from}
use Rattle.dv_machine.specs.Running.{all_ended, any_runnable, ending_by, ending_of, runnable, runnable_one, runnable_thread}
use Rattle.dv_machine.specs.State.{Machine, Thread}
use Rattle.law_engine.specs.TurnLaws.{SeedPicksRunnable}
use Rattle.law_engine.proofs.Going.{not_stopped}

-- the number of a thread that may step, among these from the k-th on
record IsFound (image : Image) (m : Machine) (ts : List Thread) (k n : ℕ) : Type 0 where
  pub place : ℕ
  pub thread : Thread
  pub number : n ≡ k + place
  pub there : slice_get ts place ≡ Some thread
  pub runs : runnable_thread image m n thread ≡ true

module _ (image : Image) (m : Machine) where
  -- the numbers, by whether the first thread may step
  abbrev numbers : Bool → ℕ → List ℕ → List ℕ
  numbers b k rest = elim b [ true ↦ k ∷ rest | false ↦ rest ]

  first : (t : Thread) (ts : List Thread) (k : ℕ) → runnable_thread image m k t ≡ true → IsFound image m (t ∷ ts) k k
  first t ts k runs = record { place = 0; thread = t; number = omega arith; there = refl; runs = runs }

  later : (t : Thread) (ts : List Thread) (k n : ℕ) → IsFound image m ts (suc k) n → IsFound image m (t ∷ ts) k n
  later t ts k n f = record { place = suc f.place; thread = f.thread; number = omega (arith, f.number); there = f.there; runs = f.runs }

  found : (ts : List Thread) (k i : ℕ) → i < length (runnable_from image m ts k) → IsFound image m ts k (slice_index_or (runnable_from image m ts k) i 0)
  found [] k i l = absurd (omega (arith, l))
  found (t ∷ ts) k i l = by (runnable_thread image m k t) refl i l (λ j s. found ts (suc k) j s)
    where
      by : (b : Bool) → runnable_thread image m k t ≡ b → (j : ℕ) → j < length (numbers b k (runnable_from image m ts (suc k))) → ((h : ℕ) → h < length (runnable_from image m ts (suc k)) → IsFound image m ts (suc k) (slice_index_or (runnable_from image m ts (suc k)) h 0)) → IsFound image m (t ∷ ts) k (slice_index_or (numbers b k (runnable_from image m ts (suc k))) j 0)
      by true is zero s rest = first t ts k is
      by true is (suc j) s rest = later t ts k _ (rest j (omega (arith, s)))
      by false is j s rest = later t ts k _ (rest j s)

  some_number : (ts : List Thread) (k : ℕ) → any_runnable image m ts k ≡ true → 0 < length (runnable_from image m ts k)
  some_number [] k any = absurd (cc)
  some_number (t ∷ ts) k any = by (runnable_thread image m k t) any (λ e. some_number ts (suc k) e)
    where
      by : (b : Bool) → elim b as (λ z. Bool) [ true ↦ true | false ↦ any_runnable image m ts (suc k) ] ≡ true → (any_runnable image m ts (suc k) ≡ true → 0 < length (runnable_from image m ts (suc k))) → 0 < length (numbers b k (runnable_from image m ts (suc k)))
      by true e rest = omega arith
      by false e rest = rest e

  some_runs : ending_of image m ≡ None → any_runnable image m m.threads 0 ≡ true
  some_runs going = by (all_ended m.threads) (nat_eq m.steps m.limits.budget) (any_runnable image m m.threads 0) (sym (ap (ending_by image m) (not_stopped image m going)) ∙ going)
    where
      by : (ended spent any : Bool) → elim ended as (λ z. Option Ending) [ true ↦ Some ending.Done | false ↦ elim spent as (λ z. Option Ending) [ true ↦ Some ending.Steps | false ↦ elim any as (λ z. Option Ending) [ true ↦ None | false ↦ Some ending.NoRunnable ] ] ] ≡ None → any ≡ true
      by true spent any e = absurd (cc)
      by false true any e = absurd (cc)
      by false false false e = absurd (cc)
      by false false true e = refl

  found_runs : (n : ℕ) → IsFound image m m.threads 0 n → runnable image m n ≡ true
  found_runs n f = let place : n ≡ f.place = omega (arith, f.number) in ap (λ (j : ℕ). runnable_one image m n (slice_get m.threads j)) place ∙ ap (runnable_one image m n) f.there ∙ f.runs

pub seed_picks_runnable : SeedPicksRunnable
seed_picks_runnable image m w going =
    let some = some_number image m m.threads 0 (some_runs image m going) in
    found_runs image m (picked (runnable_from image m m.threads 0) w) (found image m m.threads 0 (w / 256 % length (runnable_from image m m.threads 0)) (mod-lt (w / 256) some))
