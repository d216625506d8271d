-- The engine's state as a machine on words, and what becomes of it as a step is settled.
use Rattle.std.specs.Prelude.{◌≡◌, ◌≢◌, ◌<◌, ◌-◌, ◌^◌, ◌∷◌, ℕ, zero, suc, Bool, List, [], length, Option, None, slice_get}
use Rattle.dv_defs.specs.declared.machine.End.{End}
use Rattle.dv_defs.specs.declared.machine.End.TheVariants as end
use Rattle.dv_defs.specs.declared.names.ClassId.{ClassId}
use Rattle.dv_defs.specs.declared.run.Ending.{Ending}
use Rattle.dv_defs.specs.declared.run.Limits.{Limits}
use Rattle.dv_defs.specs.declared.run.Preallocated.{Preallocated}
use Rattle.dv_defs.specs.Images.{Image}
use Rattle.dv_defs.specs.Pools.{method_at}
use Rattle.dv_typing.specs.Statics as statics
use Rattle.dv_typing.specs.Statics.{fetch}
use Rattle.dv_words.specs.declared.state.Frame.{Frame}
use Rattle.dv_words.specs.declared.state.Level.{Level}
use Rattle.dv_words.specs.declared.state.Level.TheVariants as level
use Rattle.dv_words.specs.State.{WordMachine, WordThread}
use Rattle.dv_words.specs.Steps.{At}
use Rattle.dv_threads.specs.Kept.{threads_of}
use Rattle.dv_core.specs.declared.guest.Guest.{Guest}
use Rattle.dv_core.specs.declared.vm.Vm.{Vm}
use Rattle.dv_core.specs.Fitting.{RecordFits, StepFits}
use Rattle.dv_fetch.specs.Standing.{IsAtOp}
use Rattle.dv_core.specs.Guests.{IsOrdered, IsSeen, shared_of}

-- a guest's state, so many steps, what stopped the run, its limits, and the exceptions that its opening made
abbrev pub machine_with : Guest → ℕ → Option Ending → Limits → Preallocated → WordMachine
machine_with g steps stop limits preallocated =
    record {
      threads = threads_of g.threads;
      shared = shared_of g;
      steps = steps;
      stop = stop;
      limits = limits;
      preallocated = preallocated;
    }

abbrev pub machine_of : Vm → WordMachine
machine_of v = machine_with v.guest v.steps v.stop v.limits v.preallocated

-- the thread of this number
abbrev pub thread_at : Vm → ℕ → Option WordThread
thread_at v t = slice_get (threads_of v.guest.threads) t

-- its lists of threads are equally long, and each stack is as large as its limits say
abbrev pub IsInOrder : Vm → Type 0
IsInOrder v = IsOrdered v.limits v.guest

-- ---- what a step takes

-- a frame stands at an instruction of its method
pub record Stands (image : Image) (f : Frame) : Type 0 where
  pub method : method_at image f.method.0 ≢ None
  pub at : fetch image f.method.0 f.at ≢ None

-- a step of this thread: what holds in every state that stands for a well-typed one
pub record IsSteppable (image : Image) (v : Vm) (t : ℕ) : Type 0 where
  pub ordered : IsOrdered v.limits v.guest
  pub numbered : length v.guest.threads.stacks.items < 2 ^ 32
  pub few : v.steps < 2 ^ 64 - 1
  pub stands :
      (own : WordThread) (h : At) (f : Frame) → IsSeen image v.limits v.guest t own h → own.end ≡ end.Living → own.levels ≡ level.Code f ∷ h.rest →
      Stands image f
  pub instruction :
      (own : WordThread) (h : At) (x : statics.At) → IsSeen image v.limits v.guest t own h → own.end ≡ end.Living → IsAtOp own h x → StepFits h x.op
  pub class :
      (own : WordThread) (h : At) (c : ClassId) (r : Bool) → IsSeen image v.limits v.guest t own h → own.levels ≡ level.Init c r ∷ h.rest → RecordFits h c

-- ---- what is settled

-- a thread stands as its levels tell
abbrev pub ended_at : List WordThread → ℕ → (List Level → End) → List WordThread
ended_at [] t by_levels = []
ended_at (th ∷ ths) zero by_levels = record { levels = th.levels; end = by_levels th.levels; object = th.object } ∷ ths
ended_at (th ∷ ths) (suc t) by_levels = th ∷ ended_at ths t by_levels

-- and a step is counted
abbrev pub counted : WordMachine → ℕ → (List Level → End) → WordMachine
counted m t by_levels =
    record {
      threads = ended_at m.threads t by_levels;
      shared = m.shared;
      steps = suc m.steps;
      stop = m.stop;
      limits = m.limits;
      preallocated = m.preallocated;
    }
