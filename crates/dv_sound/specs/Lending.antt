-- Threads that are lent to workers, and slices of local steps that come back.
use Rattle.std.specs.Prelude.{◌≡◌, ◌≢◌, ◌&&◌, ◌-◌, ◌++◌, ℕ, zero, suc, true, false, not, min, is_none, nat_eq, List, [], ◌∷◌, All, Option, Some, None, slice_get, if◌then◌else◌}
use Rattle.std.specs.List.{filter}
use Rattle.dv_defs.specs.declared.run.Entry.{Entry}
use Rattle.dv_defs.specs.Images.{Image}
use Rattle.dv_defs.specs.Pools.{Method}
use Rattle.dv_machine.specs.Replaying.{Stands, next_is_local, steps_of}
use Rattle.dv_machine.specs.Running.{ending_of}
use Rattle.dv_machine.specs.State.{Machine}
use Rattle.dv_machine.specs.WellTyped.{Typings}
use Rattle.dv_words.specs.Stepping.{RanLocally}
use Rattle.dv_local.specs.declared.slice.Slice.{Slice}
use Rattle.dv_core.specs.declared.vm.Vm.{Vm}
use Rattle.dv_core.specs.Advancing.{running_frame}
use Rattle.dv_core.specs.Machines.{machine_of}
use Rattle.dv_sound.specs.Moves.{KeepsOthers, StandsFor, may_step}
use Rattle.dv_sound.specs.Runs.{IsAt, MayTurn, Run, logged}

-- ---- what is lent

-- the thread may do a turn, and its next step is local
pub record MayLend (r : Run) (m : Machine) (thread : ℕ) : Type 0 where
  pub turns : MayTurn r m thread
  pub local : next_is_local r.verified.image m thread ≡ true

-- a slice of this thread with no step: it ends where it begins
pub record IsFirst (thread : ℕ) (s : Slice) : Type 0 where
  pub thread_is : s.thread ≡ thread
  pub none : s.steps ≡ 0
  pub ends : s.end ≡ s.start

-- the thread is lent from now on
pub record IsLent (old new : Run) (thread : ℕ) (s : Slice) : Type 0 where
  pub first : IsFirst thread s
  pub stands : running_frame (slice_get old.machine.threads thread) ≡ Some s.start
  pub now : new ≡ record old { lent = old.lent ++ thread ∷ [] }

-- ---- slices

-- so many local instructions were done from its first frame on, each where one stands, and led to its last one
abbrev pub IsLocalRun : Image → Slice → Type 0
IsLocalRun image s = RanLocally image s.steps s.steps s.start s.end

-- its thread is lent, and stands where it begins
pub record IsFitting (r : Run) (s : Slice) : Type 0 where
  pub lent : All (λ t. t ≢ s.thread) r.lent → ⊥
  pub stands : running_frame (slice_get r.machine.threads s.thread) ≡ Some s.start

-- so many of these steps are done: as many as the budget has room for, and none where the run has ended
abbrev pub committed : Image → Machine → ℕ → ℕ
committed image m steps = if is_none (ending_of image m) then min steps (m.limits.budget - m.steps) else 0

-- an entry of so many steps is logged, and none of no steps
abbrev pub logged_some : List Entry → ℕ → ℕ → ℕ → List Entry
logged_some log worker thread zero = log
logged_some log worker thread (suc n) = logged log worker thread (suc n)

abbrev pub without : List ℕ → ℕ → List ℕ
without lent thread = filter (λ t. not (nat_eq t thread)) lent

-- so many of its steps were done and logged, and its thread is at home again
pub record IsCommitted (old new : Run) (main : Method) (m : Machine) (worker : ℕ) (s : Slice) (n : ℕ) : Type 0 where
  pub count : n ≡ committed old.verified.image m s.steps
  pub after : Machine
  pub steps : (k : ℕ) → steps_of old.verified.image k s.thread n m ≡ Stands after
  pub at : IsAt new main after
  pub logs : new.log ≡ logged_some old.log worker s.thread n
  pub home : new.lent ≡ without old.lent s.thread

-- all but the state, the log and what is lent is as before
pub record IsSameProgram (old new : Run) : Type 0 where
  pub verified : new.verified ≡ old.verified
  pub main : new.main ≡ old.main
  pub limits : new.machine.limits ≡ old.machine.limits

-- ---- an engine

-- a slice that begins where the thread stands, where it may step and its next step is local; none elsewhere
abbrev pub IsFirstOf : Option Slice → Image → Machine → Vm → ℕ → Type 0
IsFirstOf None image m v t = (may_step image m t && next_is_local image m t) ≡ false
IsFirstOf (Some s) image m v t = ((may_step image m t && next_is_local image m t) ≡ true) × IsFirst t s × (running_frame (slice_get (machine_of v).threads t) ≡ Some s.start)

-- so many steps of a thread were done, and the others stand as they stood
pub record IsDone (image : Image) (T : Typings) (m : Machine) (t n : ℕ) (old new : Vm) : Type 0 where
  pub after : Machine
  pub steps : (k : ℕ) → steps_of image k t n m ≡ Stands after
  pub stands : StandsFor image T new after
  pub limits : new.limits ≡ old.limits
  pub others : KeepsOthers t old new
