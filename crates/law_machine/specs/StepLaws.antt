-- The laws of registers, of the heap and of steps, as statements.
use Rattle.std.specs.Prelude.{◌≡◌, ◌≢◌, ◌⊎◌, ℕ, suc, ◌≤◌, Bool, true, false, List, [], ◌∷◌, length, map, Option, Some, None, Ok, slice_get, slice_set, All}
use Rattle.dv_defs.specs.declared.names.Ty.{Ty}
use Rattle.dv_defs.specs.Images.{Image}
use Rattle.dv_machine.specs.Value.{Value}
use Rattle.dv_machine.specs.Value as v
use Rattle.dv_defs.specs.declared.run.Limits.{Limits}
use Rattle.dv_machine.specs.Kind.{Kind}
use Rattle.dv_machine.specs.Kind as kind
use Rattle.dv_machine.specs.Level.{Level}
use Rattle.dv_machine.specs.Level as level
use Rattle.dv_defs.specs.declared.machine.End.TheVariants as end
use Rattle.dv_defs.specs.declared.machine.Blocked.{Blocked}
use Rattle.dv_typing.specs.declared.typing.RegType.{RegType}
use Rattle.dv_typing.specs.declared.typing.RegType.TheVariants as ty
use Rattle.dv_typing.specs.declared.typing.RegState.{RegState}
use Rattle.dv_defs.specs.Names.{thread_name}
use Rattle.dv_defs.specs.Types.{of_class}
use Rattle.dv_defs.specs.Parts.{Call}
use Rattle.dv_defs.specs.Pools.{Method, Field, field_at, class_type}
use Rattle.dv_defs.specs.Op.{Op, Invoke, Enter, Exit, Code, code_at, can_throw, is_local, is_return, needs}
use Rattle.dv_typing.specs.Statics.{At}
use Rattle.dv_typing.specs.RegTypes.{Types, type_at, reg_types}
use Rattle.dv_typing.specs.Transfer.{entry_state, arg_types, begins_uninitialised, write_type, write_two, replaced, replaced_this}
use Rattle.dv_machine.specs.Heap.{Heap, Got, kind_of, newest, alloc_object, alloc_array, alloc_string, intern, class_object, with_cell, with_static, length_of}
use Rattle.dv_machine.specs.State.{Thread, Machine, Left, Did, Here, reg_at, with_heap}
use Rattle.dv_machine.specs.Calls.{Lands, entered_frame, object_of, initialised, class_of_kind}
use Rattle.dv_machine.specs.Threads.{is_living, new_thread, run_landing}
use Rattle.dv_machine.specs.Step.{step, act, with_ready, record_step, settled, gone_on, moved_on}
use Rattle.dv_machine.specs.Running.{blocked_thread, runnable, ending_of}
use Rattle.dv_machine.specs.Mains.{IsMain}
use Rattle.dv_machine.specs.Opening.{opening}
use Rattle.dv_machine.specs.Conforming.{Own, Conforms, IsUninit, IsGood, IsOf, Conform}
use Rattle.dv_machine.specs.WellTyped.{Typings, own_of, this_above, nobody, cell_types, BelowCode, StackFine, IsHandled, IsThrowable, HeapFine, WellTyped}
use Rattle.dv_machine.specs.Accepted.{Accepted}
use Rattle.law_machine.specs.Premises.{MayStep, IsAt, IsAtRecord, KeepsKinds, StartedFine, LeftFine, DidFine, RecordDidFine, HoldsOf}

-- ---- writes keep a frame conforming

-- a value that is written with its type: an old register's, or one that conforms to a type of no uninitialised object
abbrev pub IsFrom : Image → Heap → Own → List Value → Types → Value → RegType → Type 0
IsFrom image heap own xs ts x t = ((j : ℕ) × (reg_at xs j ≡ x) × (type_at ts j ≡ t)) ⊎ ((IsUninit t → ⊥) × Conforms image heap own x t)

-- a register takes such a value, and its type is written
abbrev pub WriteKeeps : Type 0
WriteKeeps =
    (image : Image) (heap : Heap) (own : Own) (xs : List Value) (ts : Types) (k : ℕ) (x : Value) (t : RegType) →
    IsGood image heap own xs ts → IsFrom image heap own xs ts x t →
    IsGood image heap own (slice_set xs k x) (write_type ts k t)

-- two registers take a long
abbrev pub LongWriteKeeps : Type 0
LongWriteKeeps =
    (image : Image) (heap : Heap) (own : Own) (xs : List Value) (ts : Types) (k lo hi : ℕ) →
    IsGood image heap own xs ts →
    IsGood image heap own (slice_set (slice_set xs k (v.Lo lo)) (suc k) (v.Hi hi))
    (write_two ts k ty.LongLo ty.LongHi)

-- a new object, which no register of an uninitialised type holds yet
abbrev pub NewInstanceKeeps : Type 0
NewInstanceKeeps =
    (image : Image) (heap : Heap) (own : Own) (xs : List Value) (ts : Types) (k at o c : ℕ) →
    IsGood image heap own xs ts → own.made at ≡ Some c → kind_of heap o ≡ Some (kind.Object (record { 0 = c })) →
    ((j : ℕ) → IsUninit (type_at ts j) → object_of (reg_at xs j) ≢ Some o) →
    IsGood image heap own (slice_set xs k (v.Uninit at o))
    (write_type (map (replaced at ty.Conflict) ts) k (ty.Uninit at))

-- after its constructor returned, all registers that hold the object hold it initialised
abbrev pub ConstructorKeeps : Type 0
ConstructorKeeps =
    (image : Image) (heap : Heap) (own : Own) (xs : List Value) (ts : Types) (k at o c : ℕ) →
    IsGood image heap own xs ts → type_at ts k ≡ ty.Uninit at → reg_at xs k ≡ v.Uninit at o → own.made at ≡ Some c →
    IsOf image heap o (class_type image c) →
    IsGood image heap own (map (initialised o) xs) (map (replaced at (ty.Class (class_type image c))) ts)

-- the same of a frame's own receiver
abbrev pub OwnConstructorKeeps : Type 0
OwnConstructorKeeps =
    (image : Image) (heap : Heap) (own : Own) (xs : List Value) (ts : Types) (k o : ℕ) → IsGood image heap own xs ts →
    type_at ts k ≡ ty.UninitThis → reg_at xs k ≡ v.UninitThis o → IsOf image heap o own.class →
    IsGood image heap own (map (initialised o) xs) (map (replaced_this (ty.Class own.class)) ts)

-- ---- an added object keeps everything

-- an object of this kind is there that wasn't before
pub record IsAdded (image : Image) (before after : Heap) (o : ℕ) (k : Kind) : Type 0 where
  pub keeps : KeepsKinds before after
  pub fresh : kind_of before o ≡ None
  pub made : kind_of after o ≡ Some k
  pub fine : HeapFine image after

abbrev pub ObjectIsAdded : Type 0
ObjectIsAdded =
    (image : Image) (before after : Heap) (c : ℕ) → HeapFine image before → alloc_object image before c ≡ Some after →
    IsAdded image before after (newest after) (kind.Object (record { 0 = c }))

abbrev pub ArrayIsAdded : Type 0
ArrayIsAdded =
    (image : Image) (before after : Heap) (t : Ty) (n : ℕ) → HeapFine image before →
    alloc_array before t n ≡ Some after →
    IsAdded image before after (newest after) (kind.Array t) × (length_of after (newest after) ≡ n)

abbrev pub StringIsAdded : Type 0
StringIsAdded =
    (image : Image) (before after : Heap) (s : List ℕ) → HeapFine image before → alloc_string before s ≡ Some after →
    IsAdded image before after (newest after) (kind.Str s)

-- what is there is given again
abbrev pub StringIsInterned : Type 0
StringIsInterned =
    (image : Image) (before : Heap) (s : List ℕ) (g : Got) → HeapFine image before → intern before s ≡ Some g →
    (kind_of g.heap g.object ≡ Some (kind.Str s)) ×
    ((g.heap ≡ before) ⊎ IsAdded image before g.heap g.object (kind.Str s))

abbrev pub ClassObjectIsGot : Type 0
ClassObjectIsGot =
    (image : Image) (before : Heap) (t : Ty) (g : Got) → HeapFine image before → class_object before t ≡ Some g →
    (kind_of g.heap g.object ≡ Some (kind.ClassOf t)) ×
    ((g.heap ≡ before) ⊎ IsAdded image before g.heap g.object (kind.ClassOf t))

-- a machine on another heap
abbrev pub on_heap : Machine → Heap → Machine
on_heap m heap = record m { shared = with_heap m.shared heap }

-- a well-typed state stays so as objects are added
abbrev pub GrowthKeeps : Type 0
GrowthKeeps =
    (image : Image) (T : Typings) (m : Machine) (after : Heap) → Accepted image T → WellTyped image T m →
    KeepsKinds m.shared.heap after → HeapFine image after → WellTyped image T (on_heap m after)

-- ---- stores keep everything

-- a cell takes a value that fits its type
abbrev pub StoreKeeps : Type 0
StoreKeeps =
    (image : Image) (heap : Heap) (o k : ℕ) (kind : Kind) (x : Value) → HeapFine image heap →
    kind_of heap o ≡ Some kind → Conforms image heap nobody x (type_at (cell_types image (length_of heap o) kind) k) →
    HeapFine image (with_cell heap o k x) × KeepsKinds heap (with_cell heap o k x)

-- a static field takes a value that fits its type
abbrev pub StaticStoreKeeps : Type 0
StaticStoreKeeps =
    (image : Image) (heap : Heap) (n k : ℕ) (f : Field) (x : Value) → HeapFine image heap →
    field_at image n ≡ Some f → Conforms image heap nobody x (type_at (reg_types f.def.ty) k) →
    HeapFine image (with_static heap n k x) × KeepsKinds heap (with_static heap n k x)

-- ---- calls and returns

-- arguments that conform to a method's types make a frame that conforms to its entry state
abbrev pub EntryConforms : Type 0
EntryConforms =
    (image : Image) (heap : Heap) (this : Option ℕ) (code : Code) (xs : List Value) →
    code_at image code.method.id ≡ Some code → length (arg_types image code.method) ≤ code.body.registers →
    IsGood image heap (own_of image this code.method) xs (arg_types image code.method) →
    Conform image heap (own_of image this code.method)
    (entered_frame code.method xs (begins_uninitialised image code.method))
    (entry_state image code.method code.body.registers)

-- a step at an instruction of this sort is fine
abbrev pub StepsOf : (Op → Type 0) → Type 0
StepsOf Sort =
    (image : Image) (T : Typings) (m : Machine) (t : ℕ) (thread : Thread) (h : Here) (x : At) (s : RegState) →
    IsAt image T m t thread h x s → Sort x.op → DidFine image T m t thread x (act h x.op)

abbrev pub IsInvoke : Op → Type 0
IsInvoke op = (c : Call) × (ks : List ℕ) × (g : Method) × (op ≡ Invoke c ks g)

abbrev pub InvokesPush : Type 0
InvokesPush = StepsOf IsInvoke

abbrev pub ReturnsPop : Type 0
ReturnsPop = StepsOf (λ op. is_return op ≡ true)

-- ---- local steps, and steps on the heap

abbrev pub LocalStepsAreFine : Type 0
LocalStepsAreFine = StepsOf (λ op. is_local op ≡ true)

-- what is neither local nor a step on the heap
abbrev pub is_of_calls_or_monitors : Op → Bool
is_of_calls_or_monitors (Invoke c ks g) = true
is_of_calls_or_monitors (Enter a) = true
is_of_calls_or_monitors (Exit a) = true
is_of_calls_or_monitors op = is_return op

abbrev pub HeapStepsAreFine : Type 0
HeapStepsAreFine = StepsOf (λ op. (is_local op ≡ false) × (is_of_calls_or_monitors op ≡ false))

-- ---- handler edges

-- the frame of an instruction that throws finds its handlers in order
abbrev pub ThrowerIsHandled : Type 0
ThrowerIsHandled =
    (image : Image) (T : Typings) (m : Machine) (t : ℕ) (thread : Thread) (h : Here) (x : At) (s : RegState)
    (after : Heap) (o : ℕ) →
    IsAt image T m t thread h x s → can_throw x.op ≡ true → KeepsKinds m.shared.heap after →
    IsThrowable image after o →
    All (λ l. HandledLevel image T after (this_above image h.rest) o l) (moved_on (Some x) (level.Code h.frame ∷ []))
  where
    HandledLevel : Image → Typings → Heap → Option ℕ → ℕ → Level → Type 0
    HandledLevel image T heap this o (level.Code f) = IsHandled image T heap this o f
    HandledLevel image T heap this o (level.Init c r) = ⊥

-- so do the frames below a code frame, and below a record
abbrev pub CallersAreHandled : Type 0
CallersAreHandled =
    (image : Image) (T : Typings) (heap : Heap) (t o : ℕ) (m : Method) (ls : List Level) → Accepted image T →
    IsThrowable image heap o → BelowCode image m ls → StackFine image T heap t None ls →
    StackFine image T heap t (Some o) ls

-- an exception that a record lets out finds the frames below it in order
abbrev pub NeedersAreHandled : Type 0
NeedersAreHandled =
    (image : Image) (T : Typings) (heap : Heap) (t o c : ℕ) (r : Bool) (ls : List Level) → Accepted image T →
    IsThrowable image heap o → StackFine image T heap t None (level.Init (record { 0 = c }) r ∷ ls) →
    StackFine image T heap t (Some o) (level.Init (record { 0 = c }) r ∷ ls)

-- one level of an exception's flight
abbrev pub FlightsAreFine : Type 0
FlightsAreFine =
    (image : Image) (T : Typings) (m : Machine) (t o : ℕ) (thread : Thread) → MayStep image T m t →
    slice_get m.threads t ≡ Some thread → thread.end ≡ end.Flying o → HoldsOf (WellTyped image T) (step image m t)

-- ---- class initialisation

-- an instruction whose class isn't ready begins its initialisation or throws
abbrev pub NeedsAreFine : Type 0
NeedsAreFine =
    (image : Image) (T : Typings) (m : Machine) (t : ℕ) (thread : Thread) (h : Here) (x : At) (s : RegState) →
    IsAt image T m t thread h x s → DidFine image T m t thread x (act h x.op) →
    DidFine image T m t thread x (with_ready h x.op (needs x.op))

-- a step of a class's record
abbrev pub RecordsAreFine : Type 0
RecordsAreFine =
    (image : Image) (T : Typings) (m : Machine) (t c : ℕ) (r : Bool) (thread : Thread) (h : Here) →
    IsAtRecord image T m t thread h (level.Init (record { 0 = c }) r) c →
    RecordDidFine image T m t thread (record_step h c r)

-- ---- monitors and new threads

abbrev pub MonitorStepsAreFine : Type 0
MonitorStepsAreFine = StepsOf (λ op. ((a : ℕ) × (op ≡ Enter a)) ⊎ ((a : ℕ) × (op ≡ Exit a)))

-- a thread that is started on a Thread object with a run method is in order
abbrev pub NewThreadIsFine : Type 0
NewThreadIsFine =
    (image : Image) (T : Typings) (heap : Heap) (n o : ℕ) (run : Method) → Accepted image T →
    IsOf image heap o (of_class thread_name) → run_landing image (class_of_kind image (kind_of heap o)) ≡ Lands run →
    StartedFine image T heap n (new_thread o run)

-- ---- threads that don't go on

-- a step of a thread that is held up changes the count of steps alone, in every state
abbrev pub BlockedStepsWait : Type 0
BlockedStepsWait =
    (image : Image) (m after : Machine) (t : ℕ) (thread : Thread) (b : Blocked) →
    slice_get m.threads t ≡ Some thread → blocked_thread image m t thread ≡ Some b → step image m t ≡ Ok after →
    after ≡ record m { steps = suc m.steps }

-- a step of a thread that has ended, or isn't there, changes nothing
abbrev pub EndedStepsStay : Type 0
EndedStepsStay =
    (image : Image) (m : Machine) (t : ℕ) → is_living (slice_get m.threads t) ≡ false → step image m t ≡ Ok m

-- ---- whole steps

-- what a fine step leaves is well typed
abbrev pub LeftIsWellTyped : Type 0
LeftIsWellTyped =
    (image : Image) (T : Typings) (m : Machine) (t : ℕ) (thread : Thread) (l : Left) → WellTyped image T m →
    slice_get m.threads t ≡ Some thread → LeftFine image T m t thread l → WellTyped image T (gone_on m t thread l)

-- so is what a fine outcome of an instruction becomes
abbrev pub SettledIsWellTyped : Type 0
SettledIsWellTyped =
    (image : Image) (T : Typings) (m : Machine) (t : ℕ) (thread : Thread) (h : Here) (x : At) (s : RegState)
    (d : Did Left) →
    IsAt image T m t thread h x s → DidFine image T m t thread x d →
    HoldsOf (WellTyped image T) (settled image m t thread (Some x) d)

-- and what one of a record becomes
abbrev pub SettledRecordIsWellTyped : Type 0
SettledRecordIsWellTyped =
    (image : Image) (T : Typings) (m : Machine) (t c : ℕ) (r : Bool) (thread : Thread) (h : Here) (d : Did Left) →
    IsAtRecord image T m t thread h (level.Init (record { 0 = c }) r) c → RecordDidFine image T m t thread d →
    HoldsOf (WellTyped image T) (settled image m t thread None d)

-- the state in which a run of an accepted image begins is well typed
abbrev pub OpeningIsWellTyped : Type 0
OpeningIsWellTyped =
    (image : Image) (T : Typings) (main : Method) (l : Limits) → Accepted image T → IsMain image main →
    WellTyped image T (opening image main l)

-- from a well-typed state with no ending, a step of a runnable thread leads to a well-typed state, and isn't stuck
abbrev pub StepsAreSound : Type 0
StepsAreSound =
    (image : Image) (T : Typings) (m : Machine) (t : ℕ) → Accepted image T → WellTyped image T m →
    ending_of image m ≡ None → runnable image m t ≡ true → HoldsOf (WellTyped image T) (step image m t)
