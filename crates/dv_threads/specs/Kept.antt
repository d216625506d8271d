-- Threads as a list, what a step sees of them, and what it leaves.
use Rattle.std.specs.Prelude.{◌≡◌, ◌≤◌, ℕ, ◌++◌, List, [], ◌∷◌, length, map, Some, Ok, slice_get, slice_set}
use Rattle.std.specs.declared.alloc.AllocError.{AllocError}
use Rattle.std.specs.Option.{option_to_list}
use Rattle.dv_defs.specs.declared.machine.End.{End}
use Rattle.dv_defs.specs.declared.run.Limits.{Limits}
use Rattle.dv_defs.specs.declared.run.Next.{Next}
use Rattle.dv_defs.specs.Images.{Image}
use Rattle.dv_machine.specs.State.{Did}
use Rattle.dv_words.specs.State.{WordHeap, WordStack, WordThread}
use Rattle.dv_words.specs.Answering.{IsStackOf, Leads}
use Rattle.dv_words.specs.Steps.{At, Left, with_monitors}
use Rattle.dv_threads.specs.declared.threads.Threads.{Threads}

abbrev pub zipped : List WordStack → List End → List ℕ → List WordThread
zipped (s ∷ ss) (e ∷ es) (o ∷ os) = record { levels = s.levels; end = e; object = o } ∷ zipped ss es os
zipped ss es os = []

-- the threads by number, as many as each list has
abbrev pub threads_of : Threads → List WordThread
threads_of ts = zipped ts.stacks.items ts.ends.items ts.objects.items

-- the three lists are equally long
pub record AreAligned (ts : Threads) : Type 0 where
  pub ends : length ts.ends.items ≡ length ts.stacks.items
  pub objects : length ts.objects.items ≡ length ts.stacks.items

-- this is the thread that steps, with the address after its instruction
pub record IsThreadOf (ts : Threads) (thread next : ℕ) (own : WordThread) (h : At) : Type 0 where
  pub number : h.thread ≡ thread
  pub after : h.next ≡ next
  pub threads : h.threads ≡ threads_of ts
  pub monitors : h.shared.monitors ≡ ts.monitors.monitors
  pub aligned : AreAligned ts
  pub there : slice_get (threads_of ts) thread ≡ Some own
  pub stack : WordStack
  pub has_stack : slice_get ts.stacks.items thread ≡ Some stack
  pub is_stack : IsStackOf stack h

-- the rest of what a step sees
pub record Sees (i : Image) (w : WordHeap) (l : Limits) (h : At) : Type 0 where
  pub image : h.image ≡ i
  pub heap : h.shared.heap ≡ w
  pub limits : h.limits ≡ l

-- a stack has room for one frame of any method
pub record HasRoom (l : Limits) : Type 0 where
  pub levels : 1 ≤ l.levels
  pub words : 256 ≤ l.words

-- how many levels and words a stack may have
abbrev pub bounds : WordStack → ℕ × ℕ
bounds s = (s.most_levels, s.most_words)

-- the thread has the levels that are left; a thread that was started is the last one, with a stack by the limits
pub record LeavesThreads (old new : Threads) (own : WordThread) (h : At) (l : Left) : Type 0 where
  pub threads : threads_of new ≡ slice_set (threads_of old) h.thread (record { levels = l.levels; end = own.end; object = own.object }) ++ option_to_list l.started
  pub shared : l.shared ≡ with_monitors h.shared new.monitors.monitors
  pub aligned : AreAligned new
  pub bounded : map bounds new.stacks.items ≡ map bounds old.stacks.items ++ map (λ (t : WordThread). (h.limits.levels, h.limits.words)) (option_to_list l.started)

-- nothing has changed; room that was taken doesn't count
pub record AreAsBefore (old new : Threads) : Type 0 where
  pub stacks : new.stacks.items ≡ old.stacks.items
  pub ends : new.ends.items ≡ old.ends.items
  pub objects : new.objects.items ≡ old.objects.items
  pub monitors : new.monitors.monitors ≡ old.monitors.monitors

-- an answer that doesn't want memory
abbrev pub Answers : Next → Did Left → (Left → Type 0) → Type 0 → Type 0
Answers answer d leaves stays = Leads {E = AllocError} (Ok answer) d leaves stays
