-- The steps on words go where the tagged machine's go, wherever these aren't stuck.
use Rattle.std.specs.Prelude.{◌≡◌, ◌⊎◌, ◌<◌, ◌^◌, ◌/◌, ℕ, suc, false, ◌∷◌, List, Option, Some, None, Ok, All, length}
use Rattle.std.specs.List.{AllZip}
use Rattle.dv_machine.specs.Frame as tagged
use Rattle.dv_machine.specs.Kind.{Kind}
use Rattle.dv_machine.specs.Kind as kind
use Rattle.dv_machine.specs.Level as level
use Rattle.dv_defs.specs.declared.names.ClassId.{ClassId}
use Rattle.dv_machine.specs.Value.{Value}
use Rattle.dv_machine.specs.Value as v
use Rattle.dv_machine.specs.Heap.{Cells, Heap, kind_of}
use Rattle.dv_defs.specs.Images.{Image}
use Rattle.dv_defs.specs.Names.{string_name}
use Rattle.dv_defs.specs.Op.{Op, Const, ConstString, FieldGet, FieldPut, Fill, IntDivide, IntOp, Arg, Reg, Lit}
use Rattle.dv_defs.specs.Order.{fits}
use Rattle.dv_defs.specs.Pools.{Field, class_type}
use Rattle.dv_defs.specs.Types.{component, of_class, words_of}
use Rattle.dv_machine.specs.Local.{local}
use Rattle.dv_machine.specs.Mem.{mem}
use Rattle.dv_machine.specs.State.{Did, Go, Here, IsStuck, Left, NoOutput, NoRoom, NoWords, Throws, ThrowsRef, reg_at, with_heap}
use Rattle.dv_words.specs.declared.state.Frame.{Frame}
use Rattle.dv_words.specs.Standing.{FitsInt, FrameFits, FrameStands, HeapStands}
use Rattle.dv_words.specs.Local.{word_local}
use Rattle.dv_words.specs.Mem.{WordHere, WordLeft, word_mem}

-- ---- local instructions

-- a constant that the operation has is an int of 32 bits, as the units spell it
abbrev pub ArgFits : Arg → Type 0
ArgFits (Reg r) = Unit {0}
ArgFits (Lit n) = FitsInt n

abbrev pub ConstantFits : Op → Type 0
ConstantFits (Const a n) = FitsInt n
ConstantFits (IntOp o a b c) = ArgFits c
ConstantFits (IntDivide o a b c) = ArgFits c
ConstantFits (Fill a width ns) = (width ≡ 8) ⊎ All FitsInt ns
ConstantFits op = Unit {0}

-- of each local instruction
abbrev pub LocalStepsFollow : Type 0
LocalStepsFollow =
    (op : Op) (next : ℕ) (s : Frame) (f g : tagged.Frame) → ConstantFits op → FrameFits s → FrameStands s f → local op f next ≡ Ok g →
    FrameStands (word_local op s next) g

-- ---- instructions on objects

-- a string has UTF-16 units
abbrev pub IsUnit : ℕ → Type 0
IsUnit u = u < 2 ^ 16

-- the length of an array or a string is an int
abbrev pub IsShort : Kind → Cells → Type 0
IsShort (kind.Array t) xs = length xs / words_of (component t) < 2 ^ 31
IsShort (kind.Str s) xs = (length s < 2 ^ 31) × All IsUnit s
IsShort k xs = Unit {0}

-- words are counted, and may be no more than ints can say
pub record IsBounded (heap : Heap) : Type 0 where
  pub short : AllZip IsShort heap.kinds heap.cells
  pub limit : ℕ
  pub counted : heap.limit ≡ Some limit
  pub few : limit < 2 ^ 31

-- no string fits the class that declares the field
abbrev pub IsNoString : Image → Field → Type 0
IsNoString image x = fits image (of_class string_name) (class_type image x.info.class.0) ≡ false

-- what the units and pools spell, and what linking gives: a string has no field
abbrev pub OperandsFit : Image → Op → Type 0
OperandsFit image (ConstString a s) = All IsUnit s
OperandsFit image (FieldGet s a b x) = IsNoString image x
OperandsFit image (FieldPut s a b x) = IsNoString image x
OperandsFit image op = ConstantFits op

-- there is no string
abbrev pub IsPlain : Option Kind → Type 0
IsPlain (Some (kind.Str s)) = ⊥
IsPlain k = Unit {0}

-- what a constructor makes is an object of a class
abbrev pub PointsToObject : Heap → Value → Type 0
PointsToObject heap (v.UninitThis (suc o)) = (c : ClassId) × (kind_of heap (suc o) ≡ Some (kind.Object c))
PointsToObject heap x = Unit {0}

-- a field of an object that isn't initialised is put in one that a constructor makes
abbrev pub PutsInMade : Heap → List Value → Op → Type 0
PutsInMade heap regs (FieldPut s a b x) = PointsToObject heap (reg_at regs b)
PutsInMade heap regs op = Unit {0}

-- a step that goes on leaves a frame and a heap that stand for the tagged machine's, and nothing else has changed
pub record LeftStands (h : Here) (t : WordLeft) (l : Left) : Type 0 where
  pub frame : tagged.Frame
  pub levels : l.levels ≡ level.Code frame ∷ h.rest
  pub shared : l.shared ≡ with_heap h.shared l.shared.heap
  pub started : l.started ≡ None
  pub frame_stands : FrameStands t.frame frame
  pub heap_stands : HeapStands t.heap l.shared.heap
  pub bounded : IsBounded l.shared.heap

-- a step does what the tagged one does; where that is stuck it may do anything
abbrev pub DidStands : Here → Did WordLeft → Did Left → Type 0
DidStands h d (IsStuck why) = Unit {0}
DidStands h (Go t) (Go l) = LeftStands h t l
DidStands h (Throws n) (Throws m) = n ≡ m
DidStands h (ThrowsRef o) (ThrowsRef p) = o ≡ p
DidStands h NoWords NoWords = Unit {0}
DidStands h NoRoom NoRoom = Unit {0}
DidStands h NoOutput NoOutput = Unit {0}
DidStands h d e = ⊥

-- the words stand for the frame that steps and for the heap
pub record HereStands (w : WordHere) (h : Here) : Type 0 where
  pub image : w.image ≡ h.image
  pub next : w.next ≡ h.next
  pub frame : FrameStands w.frame h.frame
  pub heap : HeapStands w.heap h.shared.heap
  pub bounded : IsBounded h.shared.heap

-- of each instruction on objects, each division and each cast
abbrev pub MemStepsFollow : Type 0
MemStepsFollow =
    (op : Op) (w : WordHere) (h : Here) → OperandsFit h.image op → PutsInMade h.shared.heap h.frame.regs op → FrameFits w.frame → HereStands w h →
    DidStands h (word_mem w op) (mem h op)
