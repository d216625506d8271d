-- Many steps of a thread at once, each of which touches its frame alone.
use Rattle.std.specs.Prelude.{◌≡◌, ◌∷◌, ℕ, Bool, false, List, Option, Some, None, length, nat_eq, slice_get, slice_set, if◌then◌else◌}
use Rattle.dv_defs.specs.declared.machine.End.{End}
use Rattle.dv_defs.specs.declared.machine.End.TheVariants as end
use Rattle.dv_defs.specs.Images.{Image}
use Rattle.dv_machine.specs.Replaying.{is_running}
use Rattle.dv_words.specs.declared.state.Frame.{Frame}
use Rattle.dv_words.specs.declared.state.Level.{Level}
use Rattle.dv_words.specs.declared.state.Level.TheVariants as level
use Rattle.dv_words.specs.State.{WordMachine, WordStack, WordThread}
use Rattle.law_words.specs.StepLaws.{with_top}
use Rattle.dv_words.specs.Stepping.{RanLocally}
use Rattle.dv_local.specs.Tops.{RanTop}
use Rattle.dv_core.specs.declared.vm.Vm.{Vm}
use Rattle.dv_core.specs.Machines.{thread_at}

-- ---- the frame that goes on

-- whether a thread that stands so, where there is one, is living with nothing in flight
abbrev pub runs_in : Option End → Bool
runs_in None = false
runs_in (Some e) = is_running e

abbrev pub top_frame : List Level → Option Frame
top_frame (level.Code f ∷ ls) = Some f
top_frame ls = None

-- the frame on top of a living thread; none where there is no such thread, it isn't living, or its top level isn't code
abbrev pub running_frame : Option WordThread → Option Frame
running_frame None = None
running_frame (Some th) = if is_running th.end then top_frame th.levels else None

-- the same of the thread of this number
abbrev pub running_at : Vm → ℕ → Option Frame
running_at v t = running_frame (thread_at v t)

-- the thread of this number is living, with this frame on top of these levels
pub record RunsFrame (m : WordMachine) (t : ℕ) (own : WordThread) (f : Frame) (ls : List Level) : Type 0 where
  pub there : slice_get m.threads t ≡ Some own
  pub living : own.end ≡ end.Living
  pub levels : own.levels ≡ level.Code f ∷ ls

-- another frame may take its place, where there is one with as many registers
abbrev pub takes : Option Frame → Frame → Bool
takes None f = false
takes (Some g) f = nat_eq (length g.regs) (length f.regs)

-- a living thread has this frame on top
abbrev pub with_frame : List WordThread → ℕ → WordThread → Frame → List Level → List WordThread
with_frame ts t own f ls = slice_set ts t (record { levels = level.Code f ∷ ls; end = end.Living; object = own.object })

-- ---- so many steps

-- the stack at this number has done so many local instructions, at most so many
pub record RanAt (image : Image) (most done : ℕ) (old new : List WordStack) (t : ℕ) (s : WordStack) : Type 0 where
  pub stack : WordStack
  pub ran : RanTop image most done s stack
  pub set : new ≡ slice_set old t stack

-- the frame on top has done so many local instructions, at most so many, and each is a step of its thread
pub record RanSteps (image : Image) (most done : ℕ) (old new : WordMachine) (t : ℕ) (own : WordThread) (f : Frame) (ls : List Level) : Type 0 where
  pub frame : Frame
  pub ran : RanLocally image most done f frame
  pub machine : new ≡ with_top old t own frame ls done

-- no step is done
pub record RanNone (done : ℕ) (old new : WordMachine) : Type 0 where
  pub none : done ≡ 0
  pub same : new ≡ old
