-- Exceptions in flight (JLS 11.3, 12.4.2).
use Rattle.std.specs.Prelude.{ℕ, suc, Bool, true, false, ◌&&◌, List, [], ◌∷◌, Option, Some, None, nat_eq, bytes_eq, codes, if◌then◌else◌}
use Rattle.std.specs.Option.{unwrap_or}
use Rattle.dv_defs.specs.declared.names.Ty.{Ty}
use Rattle.dv_defs.specs.Images.{Image}
use Rattle.dv_defs.specs.declared.image.FieldInfo.{FieldInfo}
use Rattle.dv_machine.specs.Value as v
use Rattle.dv_defs.specs.declared.run.Named.{Named}
use Rattle.dv_defs.specs.declared.run.Named.TheVariants as named
use Rattle.dv_machine.specs.Pending as pending
use Rattle.dv_machine.specs.Frame.{Frame}
use Rattle.dv_machine.specs.Level.{Level}
use Rattle.dv_machine.specs.Level as level
use Rattle.dv_defs.specs.Names.{throwable_name, error_name}
use Rattle.dv_defs.specs.Types.{of_class}
use Rattle.dv_defs.specs.Pools.{Method, Field, method_at, field_at, class_named}
use Rattle.dv_defs.specs.Order.{instance}
use Rattle.dv_typing.specs.Flow.{Catcher}
use Rattle.dv_machine.specs.Heap.{Heap, newest, alloc_object, with_cell}
use Rattle.dv_machine.specs.Classes.{Erroneous, with_state}
use Rattle.dv_machine.specs.State.{Shared, Left, Here, with_heap, with_classes, type_of}

-- a handler catches what is an instance of its type
abbrev pub catches : Image → Heap → ℕ → Option Ty → Bool
catches image heap o None = true
catches image heap o (Some t) = instance image (type_of image heap o) t

-- the first handler that catches it (JLS 14.20.1)
abbrev pub handler_for : Image → Heap → ℕ → List Catcher → Option ℕ
handler_for image heap o [] = None
handler_for image heap o (h ∷ hs) = elim (catches image heap o h.ty) [ true ↦ Some h.to | false ↦ handler_for image heap o hs ]

-- the frame as a handler is entered
abbrev pub caught_frame : Frame → ℕ → ℕ → Frame
caught_frame f to o = record f { at = to; result = pending.None; caught = Some o }

-- a frame caught it; it flies on; or the words for a new one are lacking, and an OutOfMemoryError flies on in its place
pub data Unwound : Type 0 where
  Caught : (left : Left) → Unwound
  Flies : (object : ℕ) (left : Left) → Unwound
  Lacking : (left : Left) → Unwound

-- what is left, with no thread started
abbrev pub leaves : Shared → List Level → Left
leaves sh ls = record { levels = ls; shared = sh; started = None }

-- a frame without a fitting handler is dropped (JLS 11.3)
abbrev pub unwind_frame : Here → Frame → ℕ → Option ℕ → Unwound
unwind_frame h f o None = Flies o (leaves h.shared h.rest)
unwind_frame h f o (Some to) = Caught (leaves h.shared (level.Code (caught_frame f to o) ∷ h.rest))

-- thread 0, in a method of this class
abbrev pub is_method_of : ℕ → ℕ → Option Method → Bool
is_method_of t c None = false
is_method_of t c (Some m) = nat_eq t 0 && nat_eq m.info.class.0 c

-- the record that the opening made stands right above thread 0's first frame, which has run nothing
abbrev pub is_opening : Image → ℕ → ℕ → List Level → Bool
is_opening image t c (level.Code f ∷ []) = is_method_of t c (method_at image f.method.0)
is_opening image t c ls = false

-- the opening's frame is dropped with its record (own)
abbrev pub below_record : Here → ℕ → List Level
below_record h c = if is_opening h.image h.thread c h.rest then [] else h.rest

abbrev pub erroneous : Here → ℕ → Shared → Shared
erroneous h c sh = with_classes sh (with_state sh.classes c Erroneous)

-- a boot class that a step names itself
abbrev pub number_named : Image → List ℕ → ℕ
number_named image name = unwrap_or (class_named image name) 0

-- the class of each exception that a step throws by itself
abbrev pub exception_name : Named → List ℕ
exception_name named.Arithmetic = codes "Ljava/lang/ArithmeticException;"
exception_name named.NullPointer = codes "Ljava/lang/NullPointerException;"
exception_name named.NegativeArraySize = codes "Ljava/lang/NegativeArraySizeException;"
exception_name named.ArrayIndex = codes "Ljava/lang/ArrayIndexOutOfBoundsException;"
exception_name named.ArrayStore = codes "Ljava/lang/ArrayStoreException;"
exception_name named.ClassCast = codes "Ljava/lang/ClassCastException;"
exception_name named.IllegalMonitorState = codes "Ljava/lang/IllegalMonitorStateException;"
exception_name named.IllegalThreadState = codes "Ljava/lang/IllegalThreadStateException;"
exception_name named.IndexOutOfBounds = codes "Ljava/lang/IndexOutOfBoundsException;"
exception_name named.OutOfMemory = codes "Ljava/lang/OutOfMemoryError;"
exception_name named.NoClassDef = codes "Ljava/lang/NoClassDefFoundError;"
exception_name named.InInitializer = codes "Ljava/lang/ExceptionInInitializerError;"
exception_name named.ClassChange = codes "Ljava/lang/IncompatibleClassChangeError;"
exception_name named.AbstractMethod = codes "Ljava/lang/AbstractMethodError;"

-- a new exception object, message and cause null
abbrev pub made_object : Image → Heap → Named → Option Heap
made_object image heap n = alloc_object image heap (number_named image (exception_name n))

-- a field of this name that the class declares
abbrev pub is_named_field : ℕ → List ℕ → Option Field → Bool
is_named_field c name None = false
is_named_field c name (Some y) = nat_eq y.info.class.0 c && bytes_eq y.def.name name

-- the cell of the first such field
abbrev pub slot_among : Image → ℕ → List ℕ → List FieldInfo → ℕ → ℕ
slot_among image c name [] x = 0
slot_among image c name (i ∷ is) x =
    elim (is_named_field c name (field_at image x)) [ true ↦ i.slot | false ↦ slot_among image c name is (suc x) ]

-- the cell of a field that Throwable declares
abbrev pub throwable_slot : Image → List ℕ → ℕ
throwable_slot image name = slot_among image (number_named image throwable_name) name image.fields 0

-- in a new ExceptionInInitializerError, with it as the cause; the class is erroneous without one too
abbrev pub wrapped : Here → ℕ → ℕ → Option Heap → Unwound
wrapped h c o None = Lacking (leaves (erroneous h c h.shared) (below_record h c))
wrapped h c o (Some heap) =
    Flies (newest heap)
    (leaves
    (erroneous h c
    (with_heap h.shared
    (with_cell heap (newest heap) (throwable_slot h.image (codes "cause")) (v.Ref o))))
    (below_record h c))

-- an exception that isn't wrapped
abbrev pub is_error : Here → ℕ → Bool
is_error h o = instance h.image (type_of h.image h.shared.heap o) (of_class error_name)

-- the class becomes erroneous; what isn't an Error is wrapped (JLS 12.4.2, steps 10 and 11)
abbrev pub unwind_record : Here → ℕ → ℕ → Unwound
unwind_record h c o =
    if is_error h o then Flies o (leaves (erroneous h c h.shared) (below_record h c))
    else wrapped h c o (made_object h.image h.shared.heap named.InInitializer)
