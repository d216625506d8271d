-- Steps of objects, arrays, fields, divisions, casts and throw.
use Rattle.std.specs.Prelude.{ℕ, zero, suc, ◌*◌, ◌%◌, ◌++◌, Bool, true, false, ◌||◌, not, List, [], ◌∷◌, length, ℤ, pos, negsuc, Ok, Err, nat_eq, nat_lt, nat_le, if◌then◌else◌}
use Rattle.std.specs.Ordering.{int_eq}
use Rattle.dv_defs.specs.declared.names.Base.{Base}
use Rattle.dv_defs.specs.declared.names.Base.TheVariants as base
use Rattle.dv_defs.specs.declared.names.Ty.{Ty}
use Rattle.dv_machine.specs.Value.{Value}
use Rattle.dv_machine.specs.Value as v
use Rattle.dv_defs.specs.declared.run.Named.TheVariants as named
use Rattle.dv_machine.specs.Why as why
use Rattle.dv_machine.specs.Pending as pending
use Rattle.dv_defs.specs.Parts.{Suffix}
use Rattle.dv_defs.specs.Names.{throwable_name}
use Rattle.dv_defs.specs.Types.{of_class, is_array, component, is_long, words_of}
use Rattle.dv_defs.specs.Pools.{Field, class_type}
use Rattle.dv_defs.specs.Order.{instance}
use Rattle.dv_defs.specs.Numbers.{operate32, operate64, lo_of, hi_of, to_byte, to_char, to_short, bits32}
use Rattle.dv_defs.specs.Op.{Op, IntDivide, LongDivide, ConstString, ConstClass, Cast, InstanceOf, ArrayLength, New, NewArray, Filled, Fill, Throw, ArrayGet, ArrayPut, FieldGet, FieldPut, StaticGet, StaticPut}
use Rattle.dv_typing.specs.Statics.{is_of_suffix}
use Rattle.dv_typing.specs.Demands.{is_own_field, is_fill_type, any_type}
use Rattle.dv_machine.specs.Heap.{Heap, newest, alloc_object, alloc_array, intern, class_object, Got, cell_at, with_cell, static_at, with_static, length_of}
use Rattle.dv_machine.specs.State.{truth, Reads, Did, Throws, ThrowsRef, IsStuck, Left, Here, on_next, reading, where_room, where_true, reg_at, read_int, read_two, read_long, read_any, read_ref, read_array, read_value, read_single, put, put_long, put_words, gone, with_result, onward, with_heap, type_of}
use Rattle.dv_machine.specs.Local.{read_arg}

abbrev pub is_zero_number : ℤ → Bool
is_zero_number n = int_eq n (pos 0)

-- null throws, an object goes on
abbrev pub on_object : {A : Type 0} → (ℕ → Did A) → ℕ → Did A
on_object go zero = Throws named.NullPointer
on_object go (suc o) = go (suc o)

-- a register takes an object, tagged as initialised or not
abbrev pub put_object : Here → ℕ → (ℕ → Value) → Got → Did Left
put_object h a tag g = onward h (with_heap h.shared g.heap) (put h.frame h.next a (tag g.object))

-- the newest object of a heap
abbrev pub got : Heap → Got
got heap = record { object = newest heap; heap = heap }

-- null is an instance of nothing
abbrev pub is_instance : Here → Ty → ℕ → Bool
is_instance h t zero = false
is_instance h t (suc o) = instance h.image (type_of h.image h.shared.heap (suc o)) t

-- a narrow store keeps the low bits and the tag
abbrev pub narrowed_number : Base → ℤ → ℤ
narrowed_number base.Z n = pos (bits32 n % 2)
narrowed_number base.B n = to_byte n
narrowed_number base.C n = to_char n
narrowed_number base.S n = to_short n
narrowed_number b n = n

-- as an element or field of this type keeps it
abbrev pub narrowed : Ty → Value → Value
narrowed t (v.Num n) = v.Num (if is_array t then n else narrowed_number t.base n)
narrowed t x = x

abbrev pub narrowed_all : Ty → List Value → List Value
narrowed_all t [] = []
narrowed_all t (x ∷ xs) = narrowed t x ∷ narrowed_all t xs

-- the cells of one field or element, as words
abbrev pub words_at : Heap → ℕ → ℕ → Ty → List Value
words_at heap o k t = if is_long t then cell_at heap o k ∷ cell_at heap o (suc k) ∷ [] else cell_at heap o k ∷ []

-- neighbouring cells take words
abbrev pub stored : Heap → ℕ → ℕ → List Value → Heap
stored heap o k [] = heap
stored heap o k (x ∷ xs) = stored (with_cell heap o k x) o (suc k) xs

-- the cells of a static field, as words
abbrev pub static_words : Heap → ℕ → Ty → List Value
static_words heap f t = if is_long t then static_at heap f 0 ∷ static_at heap f 1 ∷ [] else static_at heap f 0 ∷ []

-- the cells of a static field take words
abbrev pub static_stored : Heap → ℕ → ℕ → List Value → Heap
static_stored heap f half [] = heap
static_stored heap f half (x ∷ xs) = static_stored (with_static heap f half x) f (suc half) xs

-- the component of an array object
abbrev pub component_of : Here → ℕ → Ty
component_of h o = component (type_of h.image h.shared.heap o)

-- an index in range goes on with the first cell of its element
abbrev pub on_index : {A : Type 0} → Here → ℕ → ℤ → (ℕ → Did A) → Did A
on_index h o (negsuc n) go = Throws named.ArrayIndex
on_index h o (pos k) go =
    if nat_lt k (length_of h.shared.heap o) then go (k * words_of (component_of h o)) else Throws named.ArrayIndex

-- what a store to an array reads, by its suffix
abbrev pub read_put : Here → ℕ → Suffix → Reads (List Value)
read_put h a Suffix.Long = on_next (read_two h.frame.regs a) (λ p. Ok (v.Lo p.lo ∷ v.Hi p.hi ∷ []))
read_put h a Suffix.Object = on_next (read_any h.shared.heap (reg_at h.frame.regs a)) (λ o. Ok (reg_at h.frame.regs a ∷ []))
read_put h a s = on_next (read_int (reg_at h.frame.regs a)) (λ n. Ok (reg_at h.frame.regs a ∷ []))

-- an object is stored only where it is an instance of the array's component (JLS 10.5)
abbrev pub is_storable : Here → ℕ → Suffix → List Value → Bool
is_storable h o Suffix.Object (v.Ref (suc p) ∷ xs) = is_instance h (component_of h o) (suc p)
is_storable h o s xs = true

-- the store test, then the store
abbrev pub array_put : Here → ℕ → Suffix → List Value → ℕ → Did Left
array_put h o s xs k =
    where_true (is_storable h o s xs) named.ArrayStore
    (onward h (with_heap h.shared (stored h.shared.heap o k (narrowed_all (component_of h o) xs)))
    (gone h.frame h.next h.frame.regs))

-- a register takes an element
abbrev pub get_element : Here → ℕ → ℕ → ℕ → Did Left
get_element h a o k = onward h h.shared (put_words h.frame h.next a (words_at h.shared.heap o k (component_of h o)))

-- an element of a payload, as a store narrows it
abbrev pub fill_words : Ty → ℤ → List Value
fill_words t n = if is_long t then v.Lo (lo_of n) ∷ v.Hi (hi_of n) ∷ [] else narrowed t (v.Num n) ∷ []

-- all elements of a payload, one after another
abbrev pub filled : Ty → List ℤ → List Value
filled t [] = []
filled t (n ∷ ns) = fill_words t n ++ filled t ns

-- all elements, or none where the array has fewer
abbrev pub fill : Here → List ℤ → ℕ → Did Left
fill h ns o =
    where_true (nat_le (length ns) (length_of h.shared.heap o)) named.ArrayIndex
    (onward h (with_heap h.shared (stored h.shared.heap o 0 (filled (component_of h o) ns)))
    (gone h.frame h.next h.frame.regs))

-- the words of filled-new-array
abbrev pub read_each : Here → Ty → List ℕ → Reads (List Value)
read_each h t [] = Ok []
read_each h t (k ∷ ks) =
    on_next (read_single h.image h.shared.heap t (reg_at h.frame.regs k))
    (λ x. on_next (read_each h t ks) (λ xs. Ok (x ∷ xs)))

-- the new array with its elements, as a pending result
abbrev pub filled_array : Here → List Value → Heap → Did Left
filled_array h xs heap =
    onward h (with_heap h.shared (stored heap (newest heap) 0 xs))
    (with_result h.frame h.next (pending.One (v.Ref (newest heap))))

-- a negative size throws before room is asked for
abbrev pub new_array : Here → ℕ → Ty → ℤ → Did Left
new_array h a t (negsuc n) = Throws named.NegativeArraySize
new_array h a t (pos n) = where_room (alloc_array h.shared.heap t n) (λ heap. put_object h a v.Ref (got heap))

-- what iput takes as its receiver
abbrev pub read_put_receiver : Here → Field → Value → Reads ℕ
read_put_receiver h x (v.UninitThis o) = if is_own_field h.own x then Ok o else Err why.Uninitialised
read_put_receiver h x y = read_ref h.image h.shared.heap (class_type h.image x.info.class.0) y

-- a register takes an instance field
abbrev pub get_field : Here → ℕ → Field → ℕ → Did Left
get_field h a x o = onward h h.shared (put_words h.frame h.next a (words_at h.shared.heap o x.info.slot x.def.ty))

-- an instance field takes words
abbrev pub put_field : Here → Field → List Value → ℕ → Did Left
put_field h x ys o =
    onward h (with_heap h.shared (stored h.shared.heap o x.info.slot (narrowed_all x.def.ty ys)))
    (gone h.frame h.next h.frame.regs)

-- an operation on the heap, a division or a cast: reads first, then null, index, store test and room
abbrev pub mem : Here → Op → Did Left
mem h (IntDivide o a b c) =
    reading (read_int (reg_at h.frame.regs b))
    (λ x.
    reading (read_arg h.frame.regs c)
    (λ y.
    where_true (not (is_zero_number y)) named.Arithmetic
    (onward h h.shared (put h.frame h.next a (v.Num (operate32 o x y))))))
mem h (LongDivide o a b c) =
    reading (read_long h.frame.regs b)
    (λ x.
    reading (read_long h.frame.regs c)
    (λ y.
    where_true (not (is_zero_number y)) named.Arithmetic
    (onward h h.shared (put_long h.frame h.next a (operate64 o x y)))))
mem h (ConstString a s) = where_room (intern h.shared.heap s) (put_object h a v.Ref)
mem h (ConstClass a t) = where_room (class_object h.shared.heap t) (put_object h a v.Ref)
mem h (Cast a t) =
    reading (read_any h.shared.heap (reg_at h.frame.regs a))
    (λ o.
    where_true (nat_eq o 0 || is_instance h t o) named.ClassCast
    (onward h h.shared (gone h.frame h.next h.frame.regs)))
mem h (InstanceOf a b t) =
    reading (read_any h.shared.heap (reg_at h.frame.regs b))
    (λ o. onward h h.shared (put h.frame h.next a (truth (is_instance h t o))))
mem h (ArrayLength a b) =
    reading (read_array any_type h.shared.heap (reg_at h.frame.regs b))
    (on_object (λ o. onward h h.shared (put h.frame h.next a (v.Num (pos (length_of h.shared.heap o))))))
mem h (New a c) = where_room (alloc_object h.image h.shared.heap c) (λ heap. put_object h a (v.Uninit h.frame.at) (got heap))
mem h (NewArray a b t) = reading (read_int (reg_at h.frame.regs b)) (new_array h a t)
mem h (Filled rs t) =
    reading (read_each h (component t) rs)
    (λ xs. where_room (alloc_array h.shared.heap t (length rs)) (filled_array h xs))
mem h (Fill a n ns) = reading (read_array (is_fill_type n) h.shared.heap (reg_at h.frame.regs a)) (on_object (fill h ns))
mem h (Throw a) = reading (read_ref h.image h.shared.heap (of_class throwable_name) (reg_at h.frame.regs a)) (on_object ThrowsRef)
mem h (ArrayGet s a b c) =
    reading (read_array (is_of_suffix s) h.shared.heap (reg_at h.frame.regs b))
    (λ p. reading (read_int (reg_at h.frame.regs c)) (λ k. on_object (λ o. on_index h o k (get_element h a o)) p))
mem h (ArrayPut s a b c) =
    reading (read_array (is_of_suffix s) h.shared.heap (reg_at h.frame.regs b))
    (λ p.
    reading (read_int (reg_at h.frame.regs c))
    (λ k. reading (read_put h a s) (λ xs. on_object (λ o. on_index h o k (array_put h o s xs)) p)))
mem h (FieldGet s a b x) =
    reading (read_ref h.image h.shared.heap (class_type h.image x.info.class.0) (reg_at h.frame.regs b))
    (on_object (get_field h a x))
mem h (FieldPut s a b x) =
    reading (read_put_receiver h x (reg_at h.frame.regs b))
    (λ o.
    reading (read_value h.image h.shared.heap h.frame.regs a x.def.ty) (λ ys. on_object (put_field h x ys) o))
mem h (StaticGet s a x) = onward h h.shared (put_words h.frame h.next a (static_words h.shared.heap x.id x.def.ty))
mem h (StaticPut s a x) =
    reading (read_value h.image h.shared.heap h.frame.regs a x.def.ty)
    (λ ys.
    onward h (with_heap h.shared (static_stored h.shared.heap x.id 0 (narrowed_all x.def.ty ys)))
    (gone h.frame h.next h.frame.regs))
mem h op = IsStuck why.Instruction
