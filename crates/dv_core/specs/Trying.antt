-- A step that is tried: it is done where nothing holds the thread up; where something does, all is as before.
use Rattle.std.specs.Prelude.{◌≡◌, ℕ, Bool, true, false, is_none, Option, Some, Result, Ok, Err}
use Rattle.std.specs.declared.alloc.AllocError.{AllocError}
use Rattle.dv_defs.specs.declared.run.Ending.{Ending}
use Rattle.dv_defs.specs.declared.run.Limits.{Limits}
use Rattle.dv_defs.specs.declared.run.Next.{Next}
use Rattle.dv_defs.specs.declared.run.Preallocated.{Preallocated}
use Rattle.dv_defs.specs.Images.{Image}
use Rattle.dv_defs.specs.Op.{Op, needs}
use Rattle.dv_typing.specs.Statics as statics
use Rattle.dv_machine.specs.State.{Did}
use Rattle.dv_words.specs.Running.{blocked_needing}
use Rattle.dv_words.specs.State.{WordMachine, WordThread}
use Rattle.dv_words.specs.Steps.{At, Left}
use Rattle.dv_threads.specs.Owning.{TriesTo}
use Rattle.dv_core.specs.declared.guest.Guest.{Guest}
use Rattle.dv_core.specs.declared.vm.Step.{Step}
use Rattle.dv_core.specs.declared.vm.Step.TheVariants.{Done, Held}
use Rattle.dv_core.specs.declared.vm.Vm.{Vm}
use Rattle.dv_core.specs.Guests.{AtEachOp, IsOrdered, Leaves, Stays}
use Rattle.dv_core.specs.Machines.{machine_of, machine_with}
use Rattle.dv_core.specs.Watching.{AreNumbered}

-- ---- a machine

-- where the thread may step its step came to this machine, and else all is as before; so it is where memory was wanting
abbrev pub IsTried : {E : Type 0} → Result Step E → Bool → Vm → Vm → WordMachine → Type 0
IsTried (Ok Done) may old new m = (may ≡ true) × (machine_of new ≡ m) × IsOrdered old.limits new.guest
IsTried (Ok Held) may old new m = (may ≡ false) × (machine_of new ≡ machine_of old) × IsOrdered old.limits new.guest
IsTried (Err memory) may old new m = (machine_of new ≡ machine_of old) × IsOrdered old.limits new.guest

-- a step of a thread that may step: it is done, or memory was wanting
abbrev pub done_by : {E : Type 0} → Result (Unit {0}) E → Result Step E
done_by (Ok u) = Ok Done
done_by (Err memory) = Err memory

-- ---- a thread at an instruction

-- nothing holds the thread up there
abbrev pub is_free : WordMachine → At → Op → Bool
is_free m h op = is_none (blocked_needing h.image m h.thread h.own h.frame op (needs op))

-- an answer of a thread that nothing holds up
abbrev pub freely : Result Next AllocError → Result (Option Next) AllocError
freely (Ok answer) = Ok (Some answer)
freely (Err memory) = Err memory

-- where the thread is free the answer is that of this step, and the guest is left as the step says; else there is none, and all is as before
abbrev pub Tries : Result (Option Next) AllocError → Bool → Did Left → Limits → Guest → Guest → WordThread → At → Type 0
Tries answer free step limits old new own h = TriesTo answer free step (Leaves old new own h) (Stays limits old new)

-- in each machine with this guest, whose threads are numbered, and each view of the thread of this number, at the operation at which it goes on
abbrev pub AtEachTry : Image → Limits → Guest → ℕ → (WordMachine → WordThread → At → statics.At → Type 0) → Type 0
AtEachTry i l g thread Says =
    (s : ℕ) (e : Option Ending) (p : Preallocated) → AreNumbered g → AtEachOp i l g thread (Says (machine_with g s e l p))
