-- What the laws of steps take and give: one record for what a case may assume, one for what it leaves.
use Rattle.std.specs.Prelude.{◌≡◌, ℕ, suc, true, false, ◌∷◌, length, Some, None, Ok, Err, slice_get, All}
use Rattle.dv_defs.specs.Images.{Image}
use Rattle.dv_machine.specs.Kind.{Kind}
use Rattle.dv_machine.specs.Level.{Level}
use Rattle.dv_machine.specs.Level as level
use Rattle.dv_defs.specs.declared.machine.End.TheVariants as end
use Rattle.dv_typing.specs.declared.typing.RegState.{RegState}
use Rattle.dv_defs.specs.Names.{thread_name}
use Rattle.dv_defs.specs.Types.{of_class}
use Rattle.dv_defs.specs.Pools.{method_at}
use Rattle.dv_defs.specs.Op.{Code, code_at, can_throw}
use Rattle.dv_typing.specs.Statics.{At, fetch}
use Rattle.dv_typing.specs.Flow.{is_exit}
use Rattle.dv_machine.specs.Heap.{Heap, kind_of}
use Rattle.dv_machine.specs.Monitors.{wait_of}
use Rattle.dv_machine.specs.Classes.{state_at}
use Rattle.dv_machine.specs.State.{Thread, Machine, Left, Did, Go, Throws, ThrowsRef, NoWords, NoRoom, NoOutput, IsStuck, Reads, Here}
use Rattle.dv_machine.specs.Step.{gone_on, end_after, here, no_method, no_frame}
use Rattle.dv_machine.specs.Running.{runnable, ending_of}
use Rattle.dv_machine.specs.Conforming.{IsOf, Conform, RefsFine}
use Rattle.dv_machine.specs.WellTyped.{Typings, own_of, this_above, BelowCode, BelowRecord, StackFine, ThreadFine, IsThrowable, HeapFine, MonitorsFine, records, levels_in, owed, WellTyped}
use Rattle.dv_machine.specs.Accepted.{Accepted, IsFine}

-- a thread may step: the state is well typed, no ending stands, and the thread is runnable
pub record MayStep (image : Image) (T : Typings) (m : Machine) (t : ℕ) : Type 0 where
  pub accepted : Accepted image T
  pub typed : WellTyped image T m
  pub going : ending_of image m ≡ None
  pub runnable : runnable image m t ≡ true

-- the thread is at an instruction, which sees this
pub record IsAt (image : Image) (T : Typings) (m : Machine) (t : ℕ) (thread : Thread) (h : Here) (x : At) (s : RegState) : Type 0 where
  pub may : MayStep image T m t
  pub has_thread : slice_get m.threads t ≡ Some thread
  pub living : thread.end ≡ end.Living
  pub levels : thread.levels ≡ level.Code h.frame ∷ h.rest
  pub sees : h ≡ here image m t h.own h.frame h.rest x.next
  pub has_own : method_at image h.frame.method.0 ≡ Some h.own
  pub has_at : fetch image h.frame.method.0 h.frame.at ≡ Some x
  pub has_state : T h.frame.method.0 h.frame.at ≡ Some s
  pub code : Code
  pub has_code : code_at image h.frame.method.0 ≡ Some code
  pub fine : IsFine image (T h.frame.method.0) code h.frame.at x s
  pub conform : Conform image h.shared.heap (own_of image (this_above image h.rest) h.own) h.frame s
  pub below : BelowCode image h.own h.rest
  pub rest_fine : StackFine image T h.shared.heap t None h.rest

-- the thread is at the record of a class, which sees this
pub record IsAtRecord (image : Image) (T : Typings) (m : Machine) (t : ℕ) (thread : Thread) (h : Here) (l : Level) (c : ℕ) : Type 0 where
  pub may : MayStep image T m t
  pub has_thread : slice_get m.threads t ≡ Some thread
  pub living : thread.end ≡ end.Living
  pub levels : thread.levels ≡ l ∷ h.rest
  pub sees : h ≡ here image m t no_method no_frame h.rest 0
  pub below : BelowRecord image t c h.rest
  pub rest_fine : StackFine image T h.shared.heap t None h.rest

-- what the objects are stays so
abbrev pub KeepsKinds : Heap → Heap → Type 0
KeepsKinds before after = (o : ℕ) (k : Kind) → kind_of before o ≡ Some k → kind_of after o ≡ Some k

-- a thread that was started, with its number
pub record StartedFine (image : Image) (T : Typings) (heap : Heap) (n : ℕ) (u : Thread) : Type 0 where
  pub thread : ThreadFine image T heap n u.levels u.end
  pub refs : All (RefsFine image heap) u.levels
  pub object : IsOf image heap u.object (of_class thread_name)

-- what a step of a thread leaves
pub record LeftFine (image : Image) (T : Typings) (m : Machine) (t : ℕ) (thread : Thread) (l : Left) : Type 0 where
  pub keeps : KeepsKinds m.shared.heap l.shared.heap
  pub levels : ThreadFine image T l.shared.heap t l.levels (end_after l.levels)
  pub refs : All (RefsFine image l.shared.heap) l.levels
  pub heap : HeapFine image l.shared.heap
  pub class_states : length l.shared.classes ≡ length image.classes
  pub monitors : MonitorsFine image (gone_on m t thread l).threads l.shared (suc m.steps)
  pub in_progress : (u c : ℕ) → records c (levels_in (slice_get (gone_on m t thread l).threads u)) ≡ owed u (state_at l.shared.classes c)
  pub started : (u : Thread) → l.started ≡ Some u → StartedFine image T l.shared.heap (length m.threads) u

-- a throwing step: the instruction can throw, and the thread doesn't wait
pub record ThrowFine (m : Machine) (t : ℕ) (x : At) : Type 0 where
  pub can : can_throw x.op ≡ true
  pub apart : wait_of m.shared.monitors t ≡ None

-- the same where its address stays: it is no monitor-exit
abbrev pub ThrowStays : Machine → ℕ → At → Type 0
ThrowStays m t x = ThrowFine m t x × (is_exit x.op ≡ false)

-- what an instruction does; it is never stuck
abbrev pub DidFine : Image → Typings → Machine → ℕ → Thread → At → Did Left → Type 0
DidFine image T m t thread x (Go l) = LeftFine image T m t thread l
DidFine image T m t thread x (Throws n) = ThrowFine m t x
DidFine image T m t thread x (ThrowsRef o) = ThrowFine m t x × (is_exit x.op ≡ false) × IsThrowable image m.shared.heap o
DidFine image T m t thread x NoWords = ThrowStays m t x
DidFine image T m t thread x NoRoom = ThrowStays m t x
DidFine image T m t thread x NoOutput = Unit {0}
DidFine image T m t thread x (IsStuck y) = ⊥

-- what a record does: it throws no object that is there already
abbrev pub RecordDidFine : Image → Typings → Machine → ℕ → Thread → Did Left → Type 0
RecordDidFine image T m t thread (Go l) = LeftFine image T m t thread l
RecordDidFine image T m t thread (Throws n) = wait_of m.shared.monitors t ≡ None
RecordDidFine image T m t thread (ThrowsRef o) = ⊥
RecordDidFine image T m t thread NoWords = wait_of m.shared.monitors t ≡ None
RecordDidFine image T m t thread NoRoom = wait_of m.shared.monitors t ≡ None
RecordDidFine image T m t thread NoOutput = Unit {0}
RecordDidFine image T m t thread (IsStuck y) = ⊥

-- a read that gives something of which this holds
abbrev pub HoldsOf : {A : Type 0} → (A → Type 0) → Reads A → Type 0
HoldsOf P (Ok x) = P x
HoldsOf P (Err y) = ⊥
