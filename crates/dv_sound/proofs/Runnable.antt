-- The runnable threads, by number, one after another.
use Rattle.std.proofs.Common.{◌≡◌, ◌<◌, ◌≤◌, ◌+◌, ℕ, zero, suc, Bool, true, false, Option, Some, List, [], ◌∷◌, length, drop, refl, sym, ap, ◌∙◌, arith}
use Rattle.std.specs.Prelude.{slice_get, slice_index_or}
use Rattle.std.proofs.lemmas.List.{drop_all}
use Rattle.dv_defs.specs.Images.{Image}
use Rattle.dv_machine.specs.Replaying.{runnable_from}
use Rattle.dv_machine.specs.Running.{runnable, runnable_one}
use Rattle.dv_machine.specs.State.{Machine, Thread}

there : (ts : List Thread) (k : ℕ) → k < length ts → (t : Thread) × (slice_get ts k ≡ Some t) × (drop k ts ≡ t ∷ drop (suc k) ts)
there [] k l = absurd (omega (arith, l))
there (t ∷ ts) zero l = (t, refl, refl)
there (t ∷ ts) (suc k) l = there ts k (omega (arith, l))

-- the numbers from the k-th thread on
abbrev pub from : Image → Machine → ℕ → List ℕ
from image m k = runnable_from image m (drop k m.threads) k

-- the k-th thread's, and those of the rest
abbrev pub numbers : Bool → ℕ → List ℕ → List ℕ
numbers b k rest = elim b [ true ↦ k ∷ rest | false ↦ rest ]

module _ (image : Image) (m : Machine) (k : ℕ) (l : k < length m.threads) where
  from_more : from image m k ≡ numbers (runnable image m k) k (from image m (k + 1))
  from_more =
      let f = there m.threads k l in
      let more : suc k ≡ k + 1 = omega arith in
      ap (λ (ts : List Thread). runnable_from image m ts k) f.2 ∙
      ap (λ (o : Option Thread). numbers (runnable_one image m k o) k (from image m (suc k))) (sym f.1) ∙
      ap (λ (j : ℕ). numbers (runnable image m k) k (from image m j)) more

  from_by : (b : Bool) → runnable image m k ≡ b → from image m k ≡ numbers b k (from image m (k + 1))
  from_by b is = from_more ∙ ap (λ (x : Bool). numbers x k (from image m (k + 1))) is

  -- how many there are
  pub count_runs : runnable image m k ≡ true → length (from image m k) ≡ suc (length (from image m (k + 1)))
  count_runs is = ap (λ (ns : List ℕ). length ns) (from_by true is)

  pub count_held : runnable image m k ≡ false → length (from image m k) ≡ length (from image m (k + 1))
  count_held is = ap (λ (ns : List ℕ). length ns) (from_by false is)

  -- the one at a place
  pub first_at : runnable image m k ≡ true → slice_index_or (from image m k) 0 0 ≡ k
  first_at is = ap (λ (ns : List ℕ). slice_index_or ns 0 0) (from_by true is)

  pub later_at : (place : ℕ) → runnable image m k ≡ true → slice_index_or (from image m k) (suc place) 0 ≡ slice_index_or (from image m (k + 1)) place 0
  later_at place is = ap (λ (ns : List ℕ). slice_index_or ns (suc place) 0) (from_by true is)

  pub held_at : (place : ℕ) → runnable image m k ≡ false → slice_index_or (from image m k) place 0 ≡ slice_index_or (from image m (k + 1)) place 0
  held_at place is = ap (λ (ns : List ℕ). slice_index_or ns place 0) (from_by false is)

-- no thread is left
pub from_none : (image : Image) (m : Machine) (k : ℕ) → length m.threads ≤ k → from image m k ≡ []
from_none image m k over = ap (λ (ts : List Thread). runnable_from image m ts k) (drop_all k m.threads over)
