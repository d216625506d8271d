-- What a step of one thread on words keeps of the other threads.
use Rattle.std.specs.Prelude.{◌≡◌, ◌≢◌, ◌≤◌, ◌⊎◌, ◌&&◌, ℕ, suc, Bool, true, false, List, ◌∷◌, length, Option, Some, None, slice_get}
use Rattle.dv_defs.specs.Images.{Image}
use Rattle.dv_typing.specs.Statics.{fetch}
use Rattle.dv_machine.specs.Replaying.{is_local_at, is_running, next_is_local}
use Rattle.dv_machine.specs.State.{Machine}
use Rattle.dv_machine.specs.WellTyped.{Typings}
use Rattle.dv_words.specs.declared.state.Level.{Level}
use Rattle.dv_words.specs.declared.state.Level.TheVariants as level
use Rattle.dv_words.specs.State.{WordMachine, WordThread}
use Rattle.dv_words.specs.Step.{step}
use Rattle.law_engine.specs.Laws.{IsSimulated}

-- a step of a thread leaves the other threads, starts at most one, and counts at most one step
pub record LeavesOthers (w n : WordMachine) (t : ℕ) : Type 0 where
  pub others : (u : ℕ) (th : WordThread) → u ≢ t → slice_get w.threads u ≡ Some th → slice_get n.threads u ≡ Some th
  pub more : length w.threads ≤ length n.threads
  pub one_more : length n.threads ≤ suc (length w.threads)
  pub bounded : length w.threads ≤ w.limits.threads → length n.threads ≤ w.limits.threads
  pub limits : n.limits ≡ w.limits
  pub steps : (n.steps ≡ w.steps) ⊎ (n.steps ≡ suc w.steps)

abbrev pub StepsLeaveOthers : Type 0
StepsLeaveOthers = (image : Image) (w : WordMachine) (t : ℕ) → LeavesOthers w (step image w t) t

-- ---- whose next step is local

abbrev pub is_local_level_of : Image → List Level → Bool
is_local_level_of image (level.Code f ∷ ls) = is_local_at (fetch image f.method.0 f.at)
is_local_level_of image ls = false

abbrev pub thread_is_local_of : Image → Option WordThread → Bool
thread_is_local_of image None = false
thread_is_local_of image (Some th) = is_running th.end && is_local_level_of image th.levels

-- the next step of the thread is local, told by words
abbrev pub next_is_local_of : Image → WordMachine → ℕ → Bool
next_is_local_of image w t = thread_is_local_of image (slice_get w.threads t)

-- it stays local while another thread steps
abbrev pub LocalsStay : Type 0
LocalsStay =
    (image : Image) (w : WordMachine) (t u : ℕ) → u ≢ t → next_is_local_of image w u ≡ true →
    next_is_local_of image (step image w t) u ≡ true

-- it is local where the tagged machine's is
abbrev pub NextIsAlike : Type 0
NextIsAlike =
    (image : Image) (T : Typings) (w : WordMachine) (m : Machine) (t : ℕ) → IsSimulated image T w m →
    next_is_local_of image w t ≡ next_is_local image m t
