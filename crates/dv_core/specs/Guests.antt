-- The state that steps change, and what a step sees and leaves of it.
use Rattle.std.specs.Prelude.{◌≡◌, ℕ, ◌++◌, ◌∷◌, All, Bool, Option, Some, None, Result, slice_get, slice_set}
use Rattle.std.specs.declared.alloc.AllocError.{AllocError}
use Rattle.std.specs.Option.{option_to_list}
use Rattle.dv_defs.specs.declared.names.ClassId.{ClassId}
use Rattle.dv_defs.specs.declared.run.Limits.{Limits}
use Rattle.dv_defs.specs.declared.run.Next.{Next}
use Rattle.dv_defs.specs.Images.{Image}
use Rattle.dv_typing.specs.Statics as statics
use Rattle.dv_machine.specs.State.{Did}
use Rattle.dv_words.specs.Answering.{Leads}
use Rattle.dv_words.specs.declared.state.Level.TheVariants as level
use Rattle.dv_words.specs.State.{WordShared, WordStack, WordThread}
use Rattle.dv_words.specs.Steps.{At, Left}
use Rattle.dv_fetch.specs.Standing.{IsAtOp}
use Rattle.dv_threads.specs.Kept.{AreAligned, bounds, threads_of}
use Rattle.dv_core.specs.declared.guest.Guest.{Guest}

-- what all threads share
abbrev pub shared_of : Guest → WordShared
shared_of g = record { heap = g.heap; classes = g.classes; monitors = g.threads.monitors.monitors; output = g.output.items }

-- the lists of threads are equally long, and each stack is as large as the limits say
pub record IsOrdered (limits : Limits) (g : Guest) : Type 0 where
  pub aligned : AreAligned g.threads
  pub bounded : All (λ (s : WordStack). bounds s ≡ (limits.levels, limits.words)) g.threads.stacks.items

-- the thread of this number steps
pub record IsSeen (i : Image) (l : Limits) (g : Guest) (thread : ℕ) (own : WordThread) (h : At) : Type 0 where
  pub image : h.image ≡ i
  pub limits : h.limits ≡ l
  pub number : h.thread ≡ thread
  pub threads : h.threads ≡ threads_of g.threads
  pub shared : h.shared ≡ shared_of g
  pub there : slice_get (threads_of g.threads) thread ≡ Some own
  pub ordered : IsOrdered l g

-- the thread has the levels that are left, another may have been started, and all share this
pub record Leaves (old new : Guest) (own : WordThread) (h : At) (l : Left) : Type 0 where
  pub threads : threads_of new.threads ≡ slice_set (threads_of old.threads) h.thread (record { levels = l.levels; end = own.end; object = own.object }) ++ option_to_list l.started
  pub shared : l.shared ≡ shared_of new
  pub ordered : IsOrdered h.limits new

-- all is as before; room that was taken doesn't count
pub record Stays (limits : Limits) (old new : Guest) : Type 0 where
  pub threads : threads_of new.threads ≡ threads_of old.threads
  pub shared : shared_of new ≡ shared_of old
  pub ordered : IsOrdered limits new

-- its top level is code at this operation, or a record
abbrev pub IsAtLevel : WordThread → At → Option statics.At → Type 0
IsAtLevel own h (Some x) = IsAtOp own h x
IsAtLevel own h None = (c : ClassId) × (r : Bool) × (own.levels ≡ level.Init c r ∷ h.rest)

-- ---- how a step is told

-- in each view of the thread of this number, at the operation at which it goes on
abbrev pub AtEachOp : Image → Limits → Guest → ℕ → (WordThread → At → statics.At → Type 0) → Type 0
AtEachOp i l g thread Says = (own : WordThread) (h : At) (x : statics.At) → IsSeen i l g thread own h → IsAtOp own h x → Says own h x

-- the same where its top level may be a record
abbrev pub AtEachLevel : Image → Limits → Guest → ℕ → (WordThread → At → Option statics.At → Type 0) → Type 0
AtEachLevel i l g thread Says = (own : WordThread) (h : At) (x : Option statics.At) → IsSeen i l g thread own h → IsAtLevel own h x → Says own h x

-- the answer is that of this step, and the guest is left as the step says; where it doesn't go on, or memory was wanting, all is as before
abbrev pub Does : Result Next AllocError → Did Left → Limits → Guest → Guest → WordThread → At → Type 0
Does answer step limits old new own h = Leads answer step (Leaves old new own h) (Stays limits old new)
