-- What instructions on objects, arrays, fields, and divisions and casts make of words: as the tagged machine's, with no read that can fail.
use Rattle.std.specs.Prelude.{ℕ, zero, suc, ◌*◌, ◌++◌, Bool, true, false, ◌||◌, not, List, [], ◌∷◌, length, map, ℤ, pos, negsuc, Option, Some, None, nat_eq, nat_lt, nat_le, if◌then◌else◌}
use Rattle.dv_defs.specs.declared.names.Ty.{Ty}
use Rattle.dv_defs.specs.declared.run.Named.TheVariants as named
use Rattle.dv_defs.specs.Images.{Image}
use Rattle.dv_defs.specs.Names.{class_name, object_name, string_name}
use Rattle.dv_defs.specs.Numbers.{operate32, operate64, lo_of, hi_of}
use Rattle.dv_defs.specs.Op.{Op, IntDivide, LongDivide, ConstString, ConstClass, Cast, InstanceOf, ArrayLength, New, NewArray, Filled, Fill, Throw, ArrayGet, ArrayPut, FieldGet, FieldPut, StaticGet, StaticPut}
use Rattle.dv_defs.specs.Order.{instance}
use Rattle.dv_defs.specs.Parts.{Suffix}
use Rattle.dv_defs.specs.Pools.{Field, class_type}
use Rattle.dv_defs.specs.Types.{component, is_array, is_long, of_class, words_of}
use Rattle.dv_machine.specs.Mem.{is_zero_number, narrowed_number, on_object}
use Rattle.dv_machine.specs.State.{Did, Go, Throws, ThrowsRef, where_room, where_true}
use Rattle.dv_words.specs.declared.state.Frame.{Frame}
use Rattle.dv_words.specs.declared.state.Kept.TheVariants as kept
use Rattle.dv_words.specs.declared.state.Kind.{Kind}
use Rattle.dv_words.specs.declared.state.Kind.TheVariants as kind
use Rattle.dv_words.specs.Heaps.{Got, alloc_array, alloc_object, class_object, intern, kind_of, length_of, newest, static_in, with_static, with_word, word_in}
use Rattle.dv_words.specs.Stacks.{given, gone}
use Rattle.dv_words.specs.State.{WordHeap}
use Rattle.dv_words.specs.Words.{int_of, word_of}
use Rattle.dv_words.specs.Local.{arg_at, int_at, long_at, put, put_int, put_long, put_two, reg_word}

-- ---- what a step sees and leaves

-- the frame of the thread that steps, and the heap
pub record WordHere : Type 0 where
  pub image : Image
  pub frame : Frame
  pub heap : WordHeap
  -- the address after the instruction
  pub next : ℕ

pub record WordLeft : Type 0 where
  pub frame : Frame
  pub heap : WordHeap

-- the frame goes on, with this heap
abbrev pub onward : WordHeap → Frame → Did WordLeft
onward heap s = Go (record { frame = s; heap = heap })

-- ---- what objects are

abbrev pub type_of_kind : Image → Option Kind → Ty
type_of_kind image None = of_class object_name
type_of_kind image (Some (kind.Object c)) = class_type image c.0
type_of_kind image (Some (kind.Array t)) = t
type_of_kind image (Some kind.Str) = of_class string_name
type_of_kind image (Some (kind.ClassOf t)) = of_class class_name

-- the type of an object; Object where there is none
abbrev pub type_of : Image → WordHeap → ℕ → Ty
type_of image heap o = type_of_kind image (kind_of heap o)

abbrev pub component_of : WordHere → ℕ → Ty
component_of h o = component (type_of h.image h.heap o)

-- null is an instance of nothing
abbrev pub is_instance : WordHere → Ty → ℕ → Bool
is_instance h t zero = false
is_instance h t (suc o) = instance h.image (type_of h.image h.heap (suc o)) t

-- ---- reads and stores

-- a narrow store keeps the low bits
abbrev pub narrowed : Ty → ℕ → ℕ
narrowed t w = if is_array t then w else word_of (narrowed_number t.base (int_of w))

abbrev pub narrowed_all : Ty → List ℕ → List ℕ
narrowed_all t ws = map (narrowed t) ws

-- a register, or two, as a value of this type
abbrev pub words_in : Frame → ℕ → Bool → List ℕ
words_in s a true = reg_word s a ∷ reg_word s (suc a) ∷ []
words_in s a false = reg_word s a ∷ []

-- a register, or two, take words
abbrev pub put_words : Frame → ℕ → ℕ → List ℕ → Frame
put_words s to a [] = gone s to
put_words s to a (w ∷ []) = put s to a w
put_words s to a (w ∷ u ∷ us) = put_two s to a w u

-- the words of one field or element
abbrev pub words_at : WordHeap → ℕ → ℕ → Ty → List ℕ
words_at heap o k t = if is_long t then word_in heap o k ∷ word_in heap o (suc k) ∷ [] else word_in heap o k ∷ []

-- neighbouring words of an object are written
abbrev pub stored : WordHeap → ℕ → ℕ → List ℕ → WordHeap
stored heap o k [] = heap
stored heap o k (w ∷ ws) = stored (with_word heap o k w) o (suc k) ws

abbrev pub static_words : WordHeap → ℕ → Ty → List ℕ
static_words heap f t = if is_long t then static_in heap f 0 ∷ static_in heap f 1 ∷ [] else static_in heap f 0 ∷ []

abbrev pub static_stored : WordHeap → ℕ → ℕ → List ℕ → WordHeap
static_stored heap f half [] = heap
static_stored heap f half (w ∷ ws) = static_stored (with_static heap f half w) f (suc half) ws

-- ---- the steps' parts

-- a register takes an object
abbrev pub put_object : WordHere → ℕ → Got → Did WordLeft
put_object h a g = onward g.heap (put h.frame h.next a g.object)

abbrev pub got : WordHeap → Got
got heap = record { object = newest heap; heap = heap }

abbrev pub truth_word : Bool → ℕ
truth_word true = 1
truth_word false = 0

-- an index in range goes on with the first word of its element
abbrev pub on_index : {A : Type 0} → WordHere → ℕ → ℤ → (ℕ → Did A) → Did A
on_index h o (negsuc n) go = Throws named.ArrayIndex
on_index h o (pos k) go =
    if nat_lt k (length_of h.heap o) then go (k * words_of (component_of h o)) else Throws named.ArrayIndex

abbrev pub is_wide : Suffix → Bool
is_wide Suffix.Long = true
is_wide s = false

-- null may stand in any array of objects, an object where it is an instance of the component (JLS 10.5)
abbrev pub is_storable : WordHere → ℕ → Suffix → ℕ → Bool
is_storable h o Suffix.Object zero = true
is_storable h o Suffix.Object (suc p) = is_instance h (component_of h o) (suc p)
is_storable h o s w = true

-- the store test, then the store
abbrev pub array_put : WordHere → ℕ → Suffix → ℕ → ℕ → Did WordLeft
array_put h o s a k =
    where_true (is_storable h o s (reg_word h.frame a)) named.ArrayStore
    (onward (stored h.heap o k (narrowed_all (component_of h o) (words_in h.frame a (is_wide s)))) (gone h.frame h.next))

abbrev pub get_element : WordHere → ℕ → ℕ → ℕ → Did WordLeft
get_element h a o k = onward h.heap (put_words h.frame h.next a (words_at h.heap o k (component_of h o)))

-- an element of a payload, as a store narrows it
abbrev pub fill_words : Ty → ℤ → List ℕ
fill_words t n = if is_long t then lo_of n ∷ hi_of n ∷ [] else narrowed t (word_of n) ∷ []

abbrev pub filled : Ty → List ℤ → List ℕ
filled t [] = []
filled t (n ∷ ns) = fill_words t n ++ filled t ns

-- all elements, or none where the array has fewer
abbrev pub fill : WordHere → List ℤ → ℕ → Did WordLeft
fill h ns o =
    where_true (nat_le (length ns) (length_of h.heap o)) named.ArrayIndex
    (onward (stored h.heap o 0 (filled (component_of h o) ns)) (gone h.frame h.next))

-- the new array with its elements, as a result that is kept
abbrev pub filled_array : WordHere → List ℕ → WordHeap → Did WordLeft
filled_array h ws heap =
    onward (stored heap (newest heap) 0 ws) (given (gone h.frame h.next) (kept.One (newest heap)))

-- a negative size throws before room is asked for
abbrev pub new_array : WordHere → ℕ → Ty → ℤ → Did WordLeft
new_array h a t (negsuc n) = Throws named.NegativeArraySize
new_array h a t (pos n) = where_room (alloc_array h.heap t n) (λ heap. put_object h a (got heap))

abbrev pub get_field : WordHere → ℕ → Field → ℕ → Did WordLeft
get_field h a x o = onward h.heap (put_words h.frame h.next a (words_at h.heap o x.info.slot x.def.ty))

abbrev pub put_field : WordHere → ℕ → Field → ℕ → Did WordLeft
put_field h a x o =
    onward (stored h.heap o x.info.slot (narrowed_all x.def.ty (words_in h.frame a (is_long x.def.ty)))) (gone h.frame h.next)

-- ---- an operation on the heap, a division or a cast; the others are no business of this one: null, index, store test and room, in this order

abbrev pub word_mem : WordHere → Op → Did WordLeft
word_mem h (IntDivide o a b c) =
    where_true (not (is_zero_number (arg_at h.frame c))) named.Arithmetic
    (onward h.heap (put_int h.frame h.next a (operate32 o (int_at h.frame b) (arg_at h.frame c))))
word_mem h (LongDivide o a b c) =
    where_true (not (is_zero_number (long_at h.frame c))) named.Arithmetic
    (onward h.heap (put_long h.frame h.next a (operate64 o (long_at h.frame b) (long_at h.frame c))))
word_mem h (ConstString a s) = where_room (intern h.heap s) (put_object h a)
word_mem h (ConstClass a t) = where_room (class_object h.heap t) (put_object h a)
word_mem h (Cast a t) =
    where_true (nat_eq (reg_word h.frame a) 0 || is_instance h t (reg_word h.frame a)) named.ClassCast
    (onward h.heap (gone h.frame h.next))
word_mem h (InstanceOf a b t) = onward h.heap (put h.frame h.next a (truth_word (is_instance h t (reg_word h.frame b))))
word_mem h (ArrayLength a b) = on_object (λ o. onward h.heap (put h.frame h.next a (length_of h.heap o))) (reg_word h.frame b)
word_mem h (New a c) = where_room (alloc_object h.image h.heap c) (λ heap. put_object h a (got heap))
word_mem h (NewArray a b t) = new_array h a t (int_at h.frame b)
word_mem h (Filled rs t) =
    where_room (alloc_array h.heap t (length rs)) (filled_array h (map (reg_word h.frame) rs))
word_mem h (Fill a n ns) = on_object (fill h ns) (reg_word h.frame a)
word_mem h (Throw a) = on_object ThrowsRef (reg_word h.frame a)
word_mem h (ArrayGet s a b c) = on_object (λ o. on_index h o (int_at h.frame c) (get_element h a o)) (reg_word h.frame b)
word_mem h (ArrayPut s a b c) = on_object (λ o. on_index h o (int_at h.frame c) (array_put h o s a)) (reg_word h.frame b)
word_mem h (FieldGet s a b x) = on_object (get_field h a x) (reg_word h.frame b)
word_mem h (FieldPut s a b x) = on_object (put_field h a x) (reg_word h.frame b)
word_mem h (StaticGet s a x) = onward h.heap (put_words h.frame h.next a (static_words h.heap x.id x.def.ty))
word_mem h (StaticPut s a x) =
    onward (static_stored h.heap x.id 0 (narrowed_all x.def.ty (words_in h.frame a (is_long x.def.ty)))) (gone h.frame h.next)
word_mem h op = onward h.heap h.frame
