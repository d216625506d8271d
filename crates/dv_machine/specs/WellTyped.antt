-- A machine state that fits a typing of each method.
use Rattle.std.specs.Prelude.{◌≡◌, ◌≢◌, ◌⊎◌, ℕ, zero, suc, ◌+◌, ◌≤◌, ◌++◌, true, false, List, [], ◌∷◌, length, Option, Some, None, slice_get, slice_index_or, nat_eq, nat_lt, All, if◌then◌else◌}
use Rattle.dv_defs.specs.Pools.{is_static_field, Method, Field, method_at, field_at, is_constructor, own_type, initialiser}
use Rattle.dv_defs.specs.Parts.{Call}
use Rattle.dv_defs.specs.Names.{object_name, thread_name, throwable_name, out_of_memory_name, stack_overflow_name}
use Rattle.dv_defs.specs.Types.{of_class, component}
use Rattle.dv_typing.specs.RegTypes.{reg_types, Types}
use Rattle.dv_defs.specs.Order.{has_number}
use Rattle.dv_defs.specs.Op.{Op, Invoke, Code, code_at, needs}
use Rattle.dv_typing.specs.Statics.{At, fetch}
use Rattle.dv_typing.specs.Flow.{handlers_at, Typing}
use Rattle.dv_typing.specs.Demands.{made_at}
use Rattle.dv_machine.specs.Heap.{Heap, Cells, kind_of, class_cells, cells_at, length_of}
use Rattle.dv_machine.specs.Monitors.{Held, Wait, owner_of}
use Rattle.dv_machine.specs.Classes.{ClassState, InProgress, state_at}
use Rattle.dv_machine.specs.State.{Thread, Shared, Machine, reg_at}
use Rattle.dv_machine.specs.Calls.{Lands, dispatch, native_of, receiver_of, object_of}
use Rattle.dv_defs.specs.Prior.{prior_at}
use Rattle.dv_machine.specs.Unwinding.{is_opening, caught_frame, catches, number_named}
use Rattle.dv_machine.specs.Conforming.{Own, IsOf, Conform, RegsConform, RefsFine}
use Rattle.dv_defs.specs.declared.names.Ty.{Ty}
use Rattle.dv_defs.specs.Images.{Image}
use Rattle.dv_machine.specs.Value as v
use Rattle.dv_defs.specs.declared.run.Native.TheVariants as native
use Rattle.dv_defs.specs.declared.run.Preallocated.{Preallocated}
use Rattle.dv_machine.specs.Frame.{Frame}
use Rattle.dv_machine.specs.Level.{Level}
use Rattle.dv_machine.specs.Level as level
use Rattle.dv_machine.specs.Kind.{Kind}
use Rattle.dv_machine.specs.Kind as kind
use Rattle.dv_defs.specs.declared.machine.End.{End}
use Rattle.dv_defs.specs.declared.machine.End.TheVariants as end
use Rattle.dv_typing.specs.declared.typing.RegState.{RegState}

-- a typing of each method
abbrev pub Typings : Type 0
Typings = ℕ → Typing

-- by its method
abbrev pub own_of : Image → Option ℕ → Method → Own
own_of image this m = record { this = this; class = own_type image m; made = made_at image m }

-- the `this` of a frame is what its caller's invoke holds as receiver, where that is of a constructor
abbrev pub called_on : Frame → Option At → Option ℕ
called_on g None = None
called_on g (Some x) = by_op x.op
  where
    by_op : Op → Option ℕ
    by_op (Invoke c (k ∷ ks) m) = if is_constructor m then object_of (reg_at g.regs k) else None
    by_op op = None

-- what stands below a frame tells its `this`
abbrev pub this_above : Image → List Level → Option ℕ
this_above image (level.Code g ∷ ls) = called_on g (fetch image g.method.0 g.at)
this_above image ls = None

-- a frame of a method with a body, with as many registers as that has
pub record IsFrame (image : Image) (f : Frame) : Type 0 where
  pub code : Code
  pub has_code : code_at image f.method.0 ≡ Some code
  pub registers : length f.regs ≡ code.body.registers

-- a frame stands where its method's typing has a state, and conforms to it
pub record IsPlaced (image : Image) (T : Typings) (heap : Heap) (this : Option ℕ) (f : Frame) : Type 0 where
  pub method : Method
  pub has_method : method_at image f.method.0 ≡ Some method
  pub state : RegState
  pub has_state : T f.method.0 f.at ≡ Some state
  pub conform : Conform image heap (own_of image this method) f state

-- each handler that may be entered with the object finds the frame in order
abbrev pub IsHandled : Image → Typings → Heap → Option ℕ → ℕ → Frame → Type 0
IsHandled image T heap this o f =
    All (λ h. catches image heap o h.ty ≡ true → IsPlaced image T heap this (caught_frame f h.to o))
    (handlers_at image f.method.0 f.at)

-- the frame above was called by this invoke of the frame below
pub record IsCalled (image : Image) (above : Method) (g : Frame) : Type 0 where
  pub at : At
  pub has_at : fetch image g.method.0 g.at ≡ Some at
  pub call : Call
  pub args : List ℕ
  pub callee : Method
  pub is_invoke : at.op ≡ Invoke call args callee
  pub same_proto : above.def.proto ≡ callee.def.proto
  pub same_sort : is_constructor above ≡ is_constructor callee
  pub has_this : is_constructor callee ≡ true → (o : ℕ) × (called_on g (Some at) ≡ Some o)

-- an initialiser's frame stands right above its class's record alone
abbrev pub IsNoInitialiser : Image → Method → Type 0
IsNoInitialiser image m = initialiser image m.info.class.0 ≢ Some m

-- what stands below a code frame: nothing, the frame that called it, or the record whose initialiser it is
abbrev pub BelowCode : Image → Method → List Level → Type 0
BelowCode image m [] = IsNoInitialiser image m
BelowCode image m (level.Code g ∷ ls) = IsCalled image m g × IsNoInitialiser image m
BelowCode image m (level.Init c true ∷ ls) = initialiser image c.0 ≡ Some m
BelowCode image m (level.Init c false ∷ ls) = ⊥

-- a frame at an instruction that needs the class
pub record IsNeeding (image : Image) (c : ℕ) (g : Frame) : Type 0 where
  pub at : At
  pub has_at : fetch image g.method.0 g.at ≡ Some at
  pub needed : needs at.op ≡ Some c

-- what stands below a record: such a frame, the opening's frame at its begin, or the record of a class that looks at this one
abbrev pub BelowRecord : Image → ℕ → ℕ → List Level → Type 0
BelowRecord image t c [] = ⊥
BelowRecord image t c (level.Code g ∷ ls) = IsNeeding image c g ⊎ ((is_opening image t c (level.Code g ∷ ls) ≡ true) × (g.at ≡ 0))
BelowRecord image t c (level.Init d true ∷ ls) = ⊥
BelowRecord image t c (level.Init d false ∷ ls) = has_number c (prior_at image d.0) ≡ true

-- what flies finds each handler in order
abbrev pub FlightFits : Image → Typings → Heap → Option ℕ → Option ℕ → Frame → Type 0
FlightFits image T heap this None f = Unit {0}
FlightFits image T heap this (Some o) f = IsHandled image T heap this o f

-- a frame, and what stands below it
pub record CodeFine (image : Image) (T : Typings) (heap : Heap) (f : Frame) (ls : List Level) : Type 0 where
  pub frame : IsFrame image f
  pub below : BelowCode image frame.code.method ls

-- a frame below what flies is still in order itself; the opening's frame below its record is never searched
abbrev pub StackFine : Image → Typings → Heap → ℕ → Option ℕ → List Level → Type 0
StackFine image T heap t flight [] = Unit {0}
StackFine image T heap t flight (level.Code f ∷ ls) =
    CodeFine image T heap f ls × IsPlaced image T heap (this_above image ls) f ×
    FlightFits image T heap (this_above image ls) flight f × StackFine image T heap t flight ls
StackFine image T heap t flight (level.Init c r ∷ ls) =
    BelowRecord image t c.0 ls ×
    elim (is_opening image t c.0 ls) [
      | true ↦ StackFine image T heap t None ls
      | false ↦ StackFine image T heap t flight ls
    ]

-- of the top frame of a thread with an exception in flight only the handlers are asked
abbrev pub FlightFine : Image → Typings → Heap → ℕ → ℕ → List Level → Type 0
FlightFine image T heap t o [] = ⊥
FlightFine image T heap t o (level.Code f ∷ ls) =
    CodeFine image T heap f ls × IsHandled image T heap (this_above image ls) o f ×
    StackFine image T heap t (Some o) ls
FlightFine image T heap t o (level.Init c r ∷ ls) = StackFine image T heap t (Some o) (level.Init c r ∷ ls)

-- the bottom of a stack
abbrev pub lowest : List Level → Option Level
lowest [] = None
lowest (l ∷ []) = Some l
lowest (l ∷ m ∷ ms) = lowest (m ∷ ms)

-- a stack ends with a frame
abbrev pub IsCode : Option Level → Type 0
IsCode None = ⊥
IsCode (Some (level.Code f)) = Unit {0}
IsCode (Some (level.Init c r)) = ⊥

-- an exception object
abbrev pub IsThrowable : Image → Heap → ℕ → Type 0
IsThrowable image heap o = IsOf image heap o (of_class throwable_name)

-- by how a thread stands
abbrev pub ThreadFine : Image → Typings → Heap → ℕ → List Level → End → Type 0
ThreadFine image T heap t ls end.Living = IsCode (lowest ls) × StackFine image T heap t None ls
ThreadFine image T heap t ls (end.Flying o) = IsCode (lowest ls) × IsThrowable image heap o × FlightFine image T heap t o ls
ThreadFine image T heap t ls end.Returned = ls ≡ []
ThreadFine image T heap t ls (end.Died o) = (ls ≡ []) × IsThrowable image heap o

-- ---- what all threads share

-- no frame's own
abbrev pub nobody : Own
nobody = record { this = None; class = of_class object_name; made = λ a. None }

-- of so many elements
abbrev pub element_types : ℕ → Ty → Types
element_types zero t = []
element_types (suc n) t = reg_types t ++ element_types n t

-- the types of an object's cells
abbrev pub cell_types : Image → ℕ → Kind → Types
cell_types image n (kind.Object c) = class_cells image c.0
cell_types image n (kind.Array t) = element_types n (component t)
cell_types image n k = []

-- as many cells as types, each of its type
pub record CellsFit (image : Image) (heap : Heap) (xs : Cells) (ts : Types) : Type 0 where
  pub count : length xs ≡ length ts
  pub each : RegsConform image heap nobody xs ts

-- each cell of an object, an array and a static field conforms to its declared type
pub record HeapFine (image : Image) (heap : Heap) : Type 0 where
  pub count : length heap.cells ≡ length heap.kinds
  pub objects :
      (o : ℕ) (k : Kind) → kind_of heap (suc o) ≡ Some k →
      CellsFit image heap (cells_at heap (suc o)) (cell_types image (length_of heap (suc o)) k)
  pub statics :
      (x : ℕ) (f : Field) → field_at image x ≡ Some f → is_static_field f ≡ true →
      CellsFit image heap (slice_index_or heap.statics x []) (reg_types f.def.ty)
  pub interned : All (λ o. (s : List ℕ) × (kind_of heap o ≡ Some (kind.Str s))) heap.interned
  pub class_objects : All (λ o. (t : Ty) × (kind_of heap o ≡ Some (kind.ClassOf t))) heap.class_objects

-- a waiting thread is living, with nothing in flight, at a call that lands on wait of the object
pub record IsWaiting (image : Image) (heap : Heap) (ls : List Level) (e : End) (object : ℕ) : Type 0 where
  pub running : e ≡ end.Living
  pub frame : Frame
  pub rest : List Level
  pub levels : ls ≡ level.Code frame ∷ rest
  pub method : Method
  pub has_method : method_at image frame.method.0 ≡ Some method
  pub at : At
  pub has_at : fetch image frame.method.0 frame.at ≡ Some at
  pub call : Call
  pub args : List ℕ
  pub callee : Method
  pub is_invoke : at.op ≡ Invoke call args callee
  pub receiver : ℕ
  pub has_receiver : receiver_of at.op ≡ Some receiver
  pub holds : reg_at frame.regs receiver ≡ v.Ref object
  pub there : nat_lt 0 object ≡ true
  pub landed : Method
  pub lands : dispatch image heap method call callee object ≡ Lands landed
  pub is_wait : native_of image landed ≡ Some native.Wait

-- an entry of the waiting threads: its thread waits there, and doesn't own the monitor
pub record WaitFine (image : Image) (threads : List Thread) (sh : Shared) (w : Wait) : Type 0 where
  pub thread : Thread
  pub has_thread : slice_get threads w.thread ≡ Some thread
  pub waits : IsWaiting image sh.heap thread.levels thread.end w.object
  pub not_owner : owner_of sh.monitors w.object ≢ Some w.thread

-- an owner is a thread, and a count is from 1 to the steps done
pub record HeldFine (threads : List Thread) (steps : ℕ) (h : Held) : Type 0 where
  pub owner : (t : Thread) × (slice_get threads h.thread ≡ Some t)
  pub low : 1 ≤ h.count
  pub high : h.count ≤ steps

-- the monitors and the waiting threads
pub record MonitorsFine (image : Image) (threads : List Thread) (sh : Shared) (steps : ℕ) : Type 0 where
  pub waits : All (WaitFine image threads sh) sh.monitors.waits
  pub held : All (HeldFine threads steps) sh.monitors.held
  pub kept : All (λ w. (1 ≤ w.kept) × (w.kept ≤ steps)) sh.monitors.waits
  -- a thread stands in one entry, a monitor has one owner
  pub once :
      (i j : ℕ) (w x : Wait) → slice_get sh.monitors.waits i ≡ Some w → slice_get sh.monitors.waits j ≡ Some x →
      w.thread ≡ x.thread → i ≡ j
  pub one_owner :
      (i j : ℕ) (w x : Held) → slice_get sh.monitors.held i ≡ Some w → slice_get sh.monitors.held j ≡ Some x →
      w.object ≡ x.object → i ≡ j

-- how many records of a class stand on a stack
abbrev pub records : ℕ → List Level → ℕ
records c [] = 0
records c (level.Code f ∷ ls) = records c ls
records c (level.Init d r ∷ ls) = (if nat_eq c d.0 then 1 else 0) + records c ls

-- how many a thread owes: one where it has the class in progress
abbrev pub owed : ℕ → ClassState → ℕ
owed t (InProgress u) = if nat_eq u t then 1 else 0
owed t s = 0

-- a thread that is not there has no levels
abbrev pub levels_in : Option Thread → List Level
levels_in None = []
levels_in (Some th) = th.levels

-- an object of exactly the class of this name
abbrev pub IsObjectOf : Image → Heap → List ℕ → ℕ → Type 0
IsObjectOf image heap name o = kind_of heap o ≡ Some (kind.Object (record { 0 = number_named image name }))

-- the two exceptions that the opening made are there, each of its class
pub record PreallocatedFine (image : Image) (heap : Heap) (p : Preallocated) : Type 0 where
  pub out_of_memory : IsObjectOf image heap out_of_memory_name p.out_of_memory
  pub stack_overflow : IsObjectOf image heap stack_overflow_name p.stack_overflow

-- a state is well typed for a typing of each method
pub record WellTyped (image : Image) (T : Typings) (m : Machine) : Type 0 where
  pub each : (t : ℕ) (th : Thread) → slice_get m.threads t ≡ Some th → ThreadFine image T m.shared.heap t th.levels th.end
  pub objects : All (λ th. IsOf image m.shared.heap th.object (of_class thread_name)) m.threads
  pub refs : All (λ th. All (RefsFine image m.shared.heap) th.levels) m.threads
  pub heap : HeapFine image m.shared.heap
  pub monitors : MonitorsFine image m.threads m.shared m.steps
  -- each class has a state
  pub class_states : length m.shared.classes ≡ length image.classes
  -- a class is in progress by a thread exactly where that has a record of it, and then just one
  pub in_progress : (t c : ℕ) → records c (levels_in (slice_get m.threads t)) ≡ owed t (state_at m.shared.classes c)
  pub preallocated : PreallocatedFine image m.shared.heap m.preallocated
