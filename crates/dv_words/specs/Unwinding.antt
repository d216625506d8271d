-- Exceptions in flight on words (JLS 11.3, 12.4.2): as the tagged machine's.
use Rattle.std.specs.Prelude.{ℕ, Bool, true, false, List, [], ◌∷◌, codes, Option, Some, None, if◌then◌else◌}
use Rattle.dv_defs.specs.declared.names.Ty.{Ty}
use Rattle.dv_defs.specs.declared.run.Named.{Named}
use Rattle.dv_defs.specs.declared.run.Named.TheVariants as named
use Rattle.dv_machine.specs.Classes.{Erroneous, with_state}
use Rattle.dv_typing.specs.Flow.{Catcher}
use Rattle.dv_defs.specs.Images.{Image}
use Rattle.dv_defs.specs.Names.{error_name}
use Rattle.dv_defs.specs.Order.{instance}
use Rattle.dv_defs.specs.Pools.{method_at}
use Rattle.dv_defs.specs.Types.{of_class}
use Rattle.dv_machine.specs.Unwinding.{exception_name, is_method_of, number_named, throwable_slot}
use Rattle.dv_words.specs.declared.state.Frame.{Frame}
use Rattle.dv_words.specs.declared.state.Level.{Level}
use Rattle.dv_words.specs.declared.state.Level.TheVariants as level
use Rattle.dv_words.specs.Heaps.{alloc_object, newest, with_word}
use Rattle.dv_words.specs.Stacks.{handling}
use Rattle.dv_words.specs.State.{WordHeap, WordShared}
use Rattle.dv_words.specs.Mem.{type_of}
use Rattle.dv_words.specs.Steps.{At, Left, leaves, with_classes, with_heap}

-- a handler catches what is an instance of its type
abbrev pub catches : Image → WordHeap → ℕ → Option Ty → Bool
catches image heap o None = true
catches image heap o (Some t) = instance image (type_of image heap o) t

-- the first handler that catches it (JLS 14.20.1)
abbrev pub handler_for : Image → WordHeap → ℕ → List Catcher → Option ℕ
handler_for image heap o [] = None
handler_for image heap o (h ∷ hs) = elim (catches image heap o h.ty) [ true ↦ Some h.to | false ↦ handler_for image heap o hs ]

-- a frame caught it; it flies on; or the words for a new one are lacking, and an OutOfMemoryError flies on in its place
pub data Unwound : Type 0 where
  Caught : (left : Left) → Unwound
  Flies : (object : ℕ) (left : Left) → Unwound
  Lacking : (left : Left) → Unwound

-- a frame without a fitting handler is dropped (JLS 11.3)
abbrev pub unwind_frame : At → Frame → ℕ → Option ℕ → Unwound
unwind_frame h f o None = Flies o (leaves h.shared h.rest)
unwind_frame h f o (Some to) = Caught (leaves h.shared (level.Code (handling f to o) ∷ h.rest))

-- the record that the opening made stands right above thread 0's first frame, which has run nothing
abbrev pub is_opening : Image → ℕ → ℕ → List Level → Bool
is_opening image t c (level.Code f ∷ []) = is_method_of t c (method_at image f.method.0)
is_opening image t c ls = false

-- the opening's frame is dropped with its record
abbrev pub below_record : At → ℕ → List Level
below_record h c = if is_opening h.image h.thread c h.rest then [] else h.rest

abbrev pub erroneous : ℕ → WordShared → WordShared
erroneous c sh = with_classes sh (with_state sh.classes c Erroneous)

-- a new exception object, message and cause null
abbrev pub made_object : Image → WordHeap → Named → Option WordHeap
made_object image heap n = alloc_object image heap (number_named image (exception_name n))

-- in a new ExceptionInInitializerError, with it as the cause; the class is erroneous without one too
abbrev pub wrapped : At → ℕ → ℕ → Option WordHeap → Unwound
wrapped h c o None = Lacking (leaves (erroneous c h.shared) (below_record h c))
wrapped h c o (Some heap) =
    Flies (newest heap)
    (leaves
    (erroneous c (with_heap h.shared (with_word heap (newest heap) (throwable_slot h.image (codes "cause")) o)))
    (below_record h c))

-- an exception that isn't wrapped
abbrev pub is_error : At → ℕ → Bool
is_error h o = instance h.image (type_of h.image h.shared.heap o) (of_class error_name)

-- the class becomes erroneous; what isn't an Error is wrapped (JLS 12.4.2, steps 10 and 11)
abbrev pub unwind_record : At → ℕ → ℕ → Unwound
unwind_record h c o =
    if is_error h o then Flies o (leaves (erroneous c h.shared) (below_record h c))
    else wrapped h c o (made_object h.image h.shared.heap named.InInitializer)
