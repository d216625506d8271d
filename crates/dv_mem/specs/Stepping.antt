-- The instruction at which the frame on top of a stack goes on.
use Rattle.std.specs.Prelude.{◌≡◌, ◌<◌, ℕ, Bool, true, false, drop, length, Option, Some, Ok}
use Rattle.dv_defs.specs.declared.code.Insn.{Insn}
use Rattle.dv_defs.specs.Decoding.{insn_here}
use Rattle.dv_defs.specs.Families.{Family}
use Rattle.dv_defs.specs.Images.{Image}
use Rattle.dv_defs.specs.Op.{Op, Code, code_at, op_of, IntDivide, LongDivide, ConstString, ConstClass, Cast, InstanceOf, ArrayLength, New, NewArray, Filled, Fill, Throw, ArrayGet, ArrayPut, FieldGet, FieldPut, StaticGet, StaticPut}
use Rattle.dv_typing.specs.Statics.{At, fetch}
use Rattle.dv_words.specs.declared.state.Frame.{Frame}
use Rattle.dv_words.specs.declared.state.Level.TheVariants as level
use Rattle.dv_words.specs.Stacks.{first}
use Rattle.dv_words.specs.State.{WordHeap, WordStack}
use Rattle.dv_ops.specs.declared.op.Op as op
use Rattle.dv_ops.specs.declared.op.Op.TheVariants as op_is
use Rattle.dv_ops.specs.Meaning.{has_payload}

-- the frame is on top, the instruction is spelled where it goes on, and this is the operation with the address after it
pub record GoesOnAt (image : Image) (stack : WordStack) (insn : Insn) (s : Frame) (x : At) : Type 0 where
  pub on_top : first stack.levels ≡ Some (level.Code s)
  pub code : Code
  pub has_code : code_at image s.method.0 ≡ Some code
  pub size : ℕ
  pub spelled : insn_here (drop s.at code.body.units) ≡ Some (record { insn = insn; size = size })
  pub fetched : fetch image s.method.0 s.at ≡ Some x

-- the frame is on top, and goes on inside its method's units
pub record IsOnTop (stack : WordStack) (image : Image) (s : Frame) (code : Code) : Type 0 where
  pub on_top : first stack.levels ≡ Some (level.Code s)
  pub has_code : code_at image s.method.0 ≡ Some code
  pub within : s.at < length code.body.units

-- this is the operation that the instruction means there
pub record IsMeant (image : Image) (stack : WordStack) (insn : Insn) (s : Frame) (op : Op) : Type 0 where
  pub code : Code
  pub on_top : IsOnTop stack image s code
  pub means : op_of image code s.at insn ≡ Ok op

-- it means none, though a payload stands where it says, if it says so
abbrev pub MeansNone : Image → WordStack → Insn → Type 0
MeansNone image stack insn =
    (s : Frame) (code : Code) → IsOnTop stack image s code → (has_payload code s.at insn ≡ true) × ((op : Op) → op_of image code s.at insn ≡ Ok op → ⊥)

abbrev pub AreAsBefore : WordStack → WordHeap → WordStack → WordHeap → Type 0
AreAsBefore s h s' h' = (s' ≡ s) × (h' ≡ h)

-- on objects, arrays and fields, a division or a cast
abbrev pub is_mem : Op → Bool
is_mem (IntDivide o a b c) = true
is_mem (LongDivide o a b c) = true
is_mem (ConstString a s) = true
is_mem (ConstClass a t) = true
is_mem (Cast a t) = true
is_mem (InstanceOf a b t) = true
is_mem (ArrayLength a b) = true
is_mem (New a c) = true
is_mem (NewArray a b t) = true
is_mem (Filled rs t) = true
is_mem (Fill a n ns) = true
is_mem (Throw a) = true
is_mem (ArrayGet s a b c) = true
is_mem (ArrayPut s a b c) = true
is_mem (FieldGet s a b x) = true
is_mem (FieldPut s a b x) = true
is_mem (StaticGet s a x) = true
is_mem (StaticPut s a x) = true
is_mem op = false

-- of these, those that read or write an array or a field
abbrev pub is_access : Op → Bool
is_access (ArrayLength a b) = true
is_access (Fill a n ns) = true
is_access (ArrayGet s a b c) = true
is_access (ArrayPut s a b c) = true
is_access (FieldGet s a b x) = true
is_access (FieldPut s a b x) = true
is_access (StaticGet s a x) = true
is_access (StaticPut s a x) = true
is_access op = false

-- ---- instructions with a payload

abbrev pub is_with_payload : Option Family → Bool
is_with_payload (Some Family.PackedSwitch) = true
is_with_payload (Some Family.SparseSwitch) = true
is_with_payload (Some Family.FillArrayData) = true
is_with_payload f = false

abbrev pub is_fill : op.Op → Bool
is_fill (op_is.Fill a to) = true
is_fill o = false
