-- The relation by cases is the graph of erasure, over words of 32 bits and ints of 32 bits.
use Rattle.std.specs.Prelude.{◌≡◌, ◌↔◌, ℕ, List, All, length}
use Rattle.dv_machine.specs.Value.{Value}
use Rattle.dv_machine.specs.Frame as tagged
use Rattle.dv_machine.specs.Level as tagged_level
use Rattle.dv_machine.specs.Heap.{Heap}
use Rattle.dv_machine.specs.State.{Machine}
use Rattle.dv_words.specs.declared.state.Frame.{Frame}
use Rattle.dv_words.specs.declared.state.Level.{Level}
use Rattle.dv_words.specs.Erasure.{erased, erased_frame, erased_heap, erased_levels, erased_machine}
use Rattle.dv_words.specs.Standing.{Fits, FrameFits, FrameStands, HeapFits, HeapStands, IsWhole, IsWholeFrame, IsWholeHeap, IsWholeLevel, IsWholeMachine, IsWord, LevelFits, LevelsStand, MachineFits, MachineStands}
use Rattle.dv_words.specs.State.{WordHeap, WordMachine}

abbrev pub ErasureIsExact : Type 0
ErasureIsExact = (w : ℕ) (x : Value) → Fits w → IsWhole x → IsWord w x ↔ (w ≡ erased x)

abbrev pub FramesAreErased : Type 0
FramesAreErased = (s : Frame) (f : tagged.Frame) → FrameFits s → IsWholeFrame f → FrameStands s f ↔ (s ≡ erased_frame f)

abbrev pub LevelsAreErased : Type 0
LevelsAreErased = (ss : List Level) (ls : List tagged_level.Level) → All LevelFits ss → All IsWholeLevel ls → LevelsStand ss ls ↔ (ss ≡ erased_levels ls)

-- of a heap that has words for each object
abbrev pub HeapsAreErased : Type 0
HeapsAreErased =
    (w : WordHeap) (h : Heap) → length h.cells ≡ length h.kinds → HeapFits w → IsWholeHeap h → HeapStands w h ↔ (w ≡ erased_heap h)

-- of machines; of threads and of what they share it follows from levels and heaps, field by field
abbrev pub MachinesAreErased : Type 0
MachinesAreErased =
    (w : WordMachine) (m : Machine) → length m.shared.heap.cells ≡ length m.shared.heap.kinds → MachineFits w → IsWholeMachine m →
    MachineStands w m ↔ (w ≡ erased_machine m)
