-- What an engine that stands at a state of the tagged machine comes to.
use Rattle.std.specs.Prelude.{◌≡◌, ◌≢◌, ◌≤◌, ◌<◌, ◌+◌, ◌^◌, ◌&&◌, ℕ, Bool, true, false, not, List, All, length, is_none, nat_eq, nat_lt, Some, Result, Ok, Err, slice_get}
use Rattle.dv_defs.specs.declared.run.Limits.{Limits}
use Rattle.dv_defs.specs.Images.{Image}
use Rattle.dv_machine.specs.Accepted.{Accepted}
use Rattle.dv_machine.specs.Replaying.{Stands, last_step, next_is_local, steps_of, turn}
use Rattle.dv_machine.specs.Running.{ending_of, runnable}
use Rattle.dv_machine.specs.State.{Machine}
use Rattle.dv_machine.specs.Step.{step}
use Rattle.dv_machine.specs.WellTyped.{Typings}
use Rattle.dv_words.specs.declared.state.Frame.{Frame}
use Rattle.dv_words.specs.declared.state.Level.{Level}
use Rattle.dv_words.specs.State.{WordMachine, WordThread}
use Rattle.law_words.specs.StepLaws.{AllKeysRise, StringsFit, with_top}
use Rattle.law_engine.specs.Laws.{IsSimulated}
use Rattle.law_engine.specs.TurnLaws.{more}
use Rattle.dv_threads.specs.Kept.{threads_of}
use Rattle.dv_core.specs.declared.vm.Step.{Step}
use Rattle.dv_core.specs.declared.vm.Step.TheVariants.{Done, Held}
use Rattle.dv_core.specs.declared.vm.Vm.{Vm}
use Rattle.dv_core.specs.Advancing.{running_frame}
use Rattle.dv_core.specs.Guests.{IsOrdered}
use Rattle.dv_core.specs.Machines.{machine_of}

-- ---- where an engine stands

-- the image is accepted, its strings have UTF-16 units, and keys of sparse switches rise
pub record IsGood (image : Image) (T : Typings) : Type 0 where
  pub accepted : Accepted image T
  pub strings : StringsFit image
  pub keys : AllKeysRise image

-- a thread may be there, a stack has room for a frame and a record, and the length of an array is an int
pub record AreUsable (l : Limits) : Type 0 where
  pub threads : 1 ≤ l.threads
  pub levels : 2 ≤ l.levels
  pub words : 256 ≤ l.words
  pub heap : l.heap < 2 ^ 31

-- its words stand for this well-typed state, and its counts are within their limits
pub record StandsFor (image : Image) (T : Typings) (v : Vm) (m : Machine) : Type 0 where
  pub simulated : IsSimulated image T (machine_of v) m
  pub ordered : IsOrdered v.limits v.guest
  pub usable : AreUsable v.limits
  pub few : length (threads_of v.guest.threads) ≤ v.limits.threads
  pub numbered : v.limits.threads < 2 ^ 32
  pub spent : v.steps ≤ v.limits.budget
  pub counted : v.limits.budget < 2 ^ 64

-- in each well-typed state of a good image for which its words stand
abbrev pub InEachState : Image → Vm → (Typings → Machine → Type 0) → Type 0
InEachState image v Says = (T : Typings) (m : Machine) → IsGood image T → StandsFor image T v m → Says T m

-- ---- what it may do

-- nothing stopped the run, and its steps aren't spent
abbrev pub goes_on : Vm → Bool
goes_on v = is_none v.stop && nat_lt v.steps v.limits.budget

-- the run goes on, and the thread is runnable
abbrev pub may_step : Image → Machine → ℕ → Bool
may_step image m t = is_none (ending_of image m) && runnable image m t

-- the next step of the thread is local, and the budget has room for it
abbrev pub goes_locally : Image → ℕ → Machine → Bool
goes_locally image t m = next_is_local image m t && not (nat_eq m.steps m.limits.budget)

-- so many steps as are asked for, or as the budget has room for
pub record IsAffordable (steps budget asked most : ℕ) : Type 0 where
  pub few : most ≤ asked
  pub room : steps + most ≤ budget
  pub all : most < asked → steps + most ≡ budget

-- ---- what it comes to

-- the other threads stand as they stood
abbrev pub KeepsOthers : ℕ → Vm → Vm → Type 0
KeepsOthers t old new = (u : ℕ) (th : WordThread) → u ≢ t → slice_get (machine_of old).threads u ≡ Some th → slice_get (machine_of new).threads u ≡ Some th

-- these threads go on at the frames at which they went on
abbrev pub FramesStay : WordMachine → WordMachine → List ℕ → Type 0
FramesStay old new threads = All (λ t. running_frame (slice_get new.threads t) ≡ running_frame (slice_get old.threads t)) threads

-- want of memory: it stands where it stood
pub record IsKeptAt (image : Image) (T : Typings) (m : Machine) (old new : Vm) : Type 0 where
  pub machine : machine_of new ≡ machine_of old
  pub stands : StandsFor image T new m

-- the tagged machine's step isn't stuck, and the engine stands where it leads
pub record IsStep (image : Image) (T : Typings) (m : Machine) (t : ℕ) (new : Vm) : Type 0 where
  pub after : Machine
  pub steps : step image m t ≡ Ok after
  pub stands : StandsFor image T new after
  pub limits : after.limits ≡ m.limits

-- the same where the thread may step; else the engine stands where it stood
abbrev pub Steps : {E : Type 0} → Result Step E → Image → Typings → Machine → ℕ → Vm → Vm → Type 0
Steps (Ok Done) image T m t old new = (may_step image m t ≡ true) × IsStep image T m t new
Steps (Ok Held) image T m t old new = (may_step image m t ≡ false) × IsKeptAt image T m old new
Steps (Err memory) image T m t old new = IsKeptAt image T m old new

-- the frame on top of a thread did so many steps, which touched it alone
pub record HasRun (old new : WordMachine) (t done : ℕ) (own : WordThread) (f : Frame) (ls : List Level) : Type 0 where
  pub frame : Frame
  pub sized : length frame.regs ≡ length f.regs
  pub machine : new ≡ with_top old t own frame ls done

-- so many local steps were done, and the next one isn't local or has no room, where more might have been done
pub record IsRun (image : Image) (T : Typings) (m : Machine) (t most done : ℕ) (new : Vm) : Type 0 where
  pub after : Machine
  pub stands : StandsFor image T new after
  pub turns : (k : ℕ) → turn image t (done + k) m ≡ more done (turn image t k after)
  pub steps : (k : ℕ) → steps_of image k t done m ≡ Stands after
  pub limits : after.limits ≡ m.limits
  pub whole : done < most → goes_locally image t after ≡ false

-- the last step of a turn
pub record IsLast (image : Image) (T : Typings) (m : Machine) (t n : ℕ) (new : Vm) : Type 0 where
  pub after : Machine
  pub last : last_step image t m ≡ Ok (record { count = n; machine = after })
  pub stands : StandsFor image T new after
  pub limits : after.limits ≡ m.limits

abbrev pub Lasts : {E : Type 0} → Result ℕ E → Image → Typings → Machine → ℕ → Vm → Vm → Type 0
Lasts (Ok n) image T m t old new = IsLast image T m t n new
Lasts (Err memory) image T m t old new = IsKeptAt image T m old new

-- a turn
pub record IsTurn (image : Image) (T : Typings) (m : Machine) (t most n : ℕ) (new : Vm) : Type 0 where
  pub after : Machine
  pub turned : turn image t most m ≡ Ok (record { count = n; machine = after })
  pub stands : StandsFor image T new after

abbrev pub Turns : {E : Type 0} → Result ℕ E → Image → Typings → Machine → ℕ → ℕ → Vm → Vm → Type 0
Turns (Ok n) image T m t most old new = IsTurn image T m t most n new
Turns (Err memory) image T m t most old new = IsKeptAt image T m old new
