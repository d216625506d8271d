-- Operands are what the operations take, in words that stand for a well-typed state.
use Rattle.std.specs.Prelude.{◌≡◌, ℕ, Option, Some}
use Rattle.dv_machine.specs.Frame as tagged
use Rattle.dv_machine.specs.Heap.{Heap}
use Rattle.dv_defs.specs.Images.{Image}
use Rattle.dv_typing.specs.Statics.{At, fetch}
use Rattle.dv_machine.specs.Accepted.{Accepted}
use Rattle.dv_machine.specs.WellTyped.{HeapFine, IsPlaced, Typings}
use Rattle.dv_words.specs.Standing.{FrameStands, HeapStands}
use Rattle.law_words.specs.Laws.{OperandsFit}
use Rattle.dv_words.specs.Mem.{WordHere}
use Rattle.dv_mem.specs.Operands.{AreOperands}

-- of what stands where a frame goes on: the image is accepted, the heap's cells and the frame's registers conform
abbrev pub OperandsStand : Type 0
OperandsStand =
    (image : Image) (T : Typings) (heap : Heap) (this : Option ℕ) (f : tagged.Frame) (x : At) (w : WordHere) → Accepted image T →
    HeapFine image heap → IsPlaced image T heap this f → fetch image f.method.0 f.at ≡ Some x → OperandsFit image x.op →
    FrameStands w.frame f → HeapStands w.heap heap → AreOperands w x.op
