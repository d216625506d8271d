-- What is needed to tell what holds threads up: it holds in every state that stands for a well-typed one.
use Rattle.std.specs.Prelude.{◌≡◌, Bool, false, ◌<◌, ◌^◌, ◌∷◌, ℕ, List, length, Option, Some, None, slice_get}
use Rattle.dv_defs.specs.declared.machine.Blocked.{Blocked}
use Rattle.dv_defs.specs.declared.machine.End.{End}
use Rattle.dv_defs.specs.declared.machine.End.TheVariants as end
use Rattle.dv_defs.specs.declared.run.Ending.{Ending}
use Rattle.dv_defs.specs.declared.run.Limits.{Limits}
use Rattle.dv_defs.specs.declared.run.Preallocated.{Preallocated}
use Rattle.dv_defs.specs.Images.{Image}
use Rattle.dv_typing.specs.Statics as statics
use Rattle.dv_typing.specs.Statics.{fetch}
use Rattle.dv_machine.specs.Accepted.{Accepted}
use Rattle.dv_machine.specs.State.{Machine}
use Rattle.dv_machine.specs.WellTyped.{Typings}
use Rattle.dv_words.specs.declared.state.Frame.{Frame}
use Rattle.dv_words.specs.declared.state.Level.{Level}
use Rattle.dv_words.specs.declared.state.Level.TheVariants as level
use Rattle.dv_words.specs.State.{WordMachine, WordStack, WordThread}
use Rattle.dv_words.specs.Running.{blocked_native}
use Rattle.law_words.specs.StepLaws.{CallFits, StringsFit}
use Rattle.dv_words.specs.Steps.{At}
use Rattle.dv_words.specs.Threads.{is_alive}
use Rattle.law_engine.specs.Laws.{IsSimulated}
use Rattle.dv_threads.specs.Kept.{AreAligned, threads_of}
use Rattle.dv_call.specs.Landings.{IsOwn, IsSeenByCalls, Landed, Runs}
use Rattle.dv_core.specs.declared.guest.Guest.{Guest}
use Rattle.dv_core.specs.declared.vm.Vm.{Vm}
use Rattle.dv_core.specs.Guests.{IsOrdered}
use Rattle.dv_core.specs.Machines.{Stands, machine_of, machine_with}

-- a frame stands at an instruction of its method, and its call, where it is one, fits
pub record IsWatched (image : Image) (f : Frame) : Type 0 where
  pub stands : Stands image f
  pub call : (x : statics.At) → fetch image f.method.0 f.at ≡ Some x → CallFits image x.op

-- the frame on top of these levels, where that is code
abbrev pub IsTopWatched : Image → List Level → Type 0
IsTopWatched image (level.Code f ∷ ls) = IsWatched image f
IsTopWatched image ls = Unit {0}

-- the threads have numbers of 32 bits, and each that lives stands at an instruction or at a record
pub record AreWatchable (image : Image) (v : Vm) : Type 0 where
  pub ordered : IsOrdered v.limits v.guest
  pub few : length v.guest.threads.stacks.items < 2 ^ 32
  pub tops : (t : ℕ) (own : WordThread) → slice_get (threads_of v.guest.threads) t ≡ Some own → own.end ≡ end.Living → IsTopWatched image own.levels

-- lists of threads that are equally long, with numbers of 32 bits
pub record AreNumbered (g : Guest) : Type 0 where
  pub aligned : AreAligned g.threads
  pub few : length g.threads.stacks.items < 2 ^ 32

-- in each machine with this guest, whose threads are numbered
abbrev pub InEachMachine : Guest → (WordMachine → Type 0) → Type 0
InEachMachine g Says =
    (s : ℕ) (e : Option Ending) (l : Limits) (p : Preallocated) → AreNumbered g → Says (machine_with g s e l p)

-- the same in each view of the thread of this stack
abbrev pub AtEachCall : Image → Guest → WordStack → (WordMachine → At → Type 0) → Type 0
AtEachCall i g stack Says =
    (s : ℕ) (e : Option Ending) (l : Limits) (p : Preallocated) (h : At) → AreNumbered g → IsSeenByCalls i g.heap stack h → IsOwn h →
    Says (machine_with g s e l p) h

-- by what a call on this object comes to: only wait and join hold a thread up
abbrev pub blocked_landed : WordMachine → ℕ → ℕ → Landed → Option Blocked
blocked_landed m t o (Runs n) = blocked_native m t o (Some n)
blocked_landed m t o l = None

-- a thread that is there and has neither returned nor died
abbrev pub alive_in : Option End → Bool
alive_in None = false
alive_in (Some e) = is_alive e

-- it holds in words that stand for a well-typed state of an accepted image whose strings have UTF-16 units
abbrev pub WatchesFit : Type 0
WatchesFit =
    (image : Image) (T : Typings) (v : Vm) (m : Machine) → Accepted image T → StringsFit image → IsSimulated image T (machine_of v) m →
    IsOrdered v.limits v.guest → length v.guest.threads.stacks.items < 2 ^ 32 → AreWatchable image v
