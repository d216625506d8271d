-- What operations take: facts on words that hold in every state that stands for a well-typed one.
use Rattle.std.specs.Prelude.{◌≡◌, ◌≢◌, ◌<◌, ◌≤◌, ◌+◌, ◌^◌, ℕ, Bool, true, length, IsSome, Some, slice_index_or, []}
use Rattle.dv_defs.specs.declared.names.Ty.{Ty}
use Rattle.dv_typing.specs.Demands.{any_type, is_fill_type}
use Rattle.dv_defs.specs.Op.{Op, IntDivide, LongDivide, ArrayLength, ArrayGet, ArrayPut, Fill, Filled, FieldGet, FieldPut, StaticGet, StaticPut}
use Rattle.dv_defs.specs.Parts.{is_division}
use Rattle.dv_defs.specs.Pools.{Field}
use Rattle.dv_typing.specs.Statics.{is_of_suffix}
use Rattle.dv_defs.specs.Types.{component, words_of}
use Rattle.dv_words.specs.declared.state.Kind.TheVariants as kind
use Rattle.dv_words.specs.Heaps.{kind_of, words_of_object}
use Rattle.dv_words.specs.State.{WordHeap}
use Rattle.law_words.specs.Laws.{ArgFits}
use Rattle.dv_words.specs.Local.{reg_word}
use Rattle.dv_words.specs.Mem.{WordHere}

-- an array whose elements are of a type that passes the test
pub record IsArray (good : Ty → Bool) (heap : WordHeap) (o : ℕ) : Type 0 where
  pub ty : Ty
  pub kind : kind_of heap o ≡ Some (kind.Array ty)
  pub passes : good (component ty) ≡ true

abbrev pub IsNullOrArray : (Ty → Bool) → WordHeap → ℕ → Type 0
IsNullOrArray good heap o = 0 < o → IsArray good heap o

-- so many words of an object, from a place on
pub record AreWithin (heap : WordHeap) (o k count : ℕ) : Type 0 where
  pub positive : 0 < o
  pub within : k + count ≤ length (words_of_object heap o)
  pub few : k + count ≤ 2 ^ 32

-- an object that has the words of the field, and no string
pub record IsOwner (x : Field) (heap : WordHeap) (o : ℕ) : Type 0 where
  pub exists : IsSome (kind_of heap o)
  pub no_string : kind_of heap o ≢ Some kind.Str
  pub within : x.info.slot + words_of x.def.ty ≤ length (words_of_object heap o)

abbrev pub IsNullOrOwner : Field → WordHeap → ℕ → Type 0
IsNullOrOwner x heap o = 0 < o → IsOwner x heap o

-- the static field has the words of its type
abbrev pub HasStaticWords : WordHeap → Field → Type 0
HasStaticWords heap x = words_of x.def.ty ≤ length (slice_index_or heap.statics x.id [])

-- what an operation's operands are, wherever the tagged machine isn't stuck
abbrev pub AreOperands : WordHere → Op → Type 0
AreOperands h (IntDivide o a b c) = (is_division o ≡ true) × ArgFits c
AreOperands h (LongDivide o a b c) = is_division o ≡ true
AreOperands h (ArrayLength a b) = IsNullOrArray any_type h.heap (reg_word h.frame b)
AreOperands h (Filled rs t) = length h.heap.cells ≡ length h.heap.kinds
AreOperands h (Fill a width ns) = IsNullOrArray (is_fill_type width) h.heap (reg_word h.frame a)
AreOperands h (ArrayGet s a b c) = IsNullOrArray (is_of_suffix s) h.heap (reg_word h.frame b)
AreOperands h (ArrayPut s a b c) = IsNullOrArray (is_of_suffix s) h.heap (reg_word h.frame b)
AreOperands h (FieldGet s a b x) = IsNullOrOwner x h.heap (reg_word h.frame b)
AreOperands h (FieldPut s a b x) = IsNullOrOwner x h.heap (reg_word h.frame b)
AreOperands h (StaticGet s a x) = HasStaticWords h.heap x
AreOperands h (StaticPut s a x) = HasStaticWords h.heap x
AreOperands h op = Unit {0}
