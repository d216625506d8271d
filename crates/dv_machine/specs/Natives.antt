-- The native methods of the boot classes.
use Rattle.std.specs.Prelude.{ℕ, ◌+◌, ◌%◌, ◌++◌, Bool, false, List, [], ◌∷◌, length, take, drop, ℤ, pos, negsuc, Option, Some, None, slice_get, slice_index_or, nat_le, bytes_eq, if◌then◌else◌}
use Rattle.dv_machine.specs.Value.{Value}
use Rattle.dv_machine.specs.Value as v
use Rattle.dv_defs.specs.declared.run.Named.TheVariants as named
use Rattle.dv_defs.specs.declared.run.Native.{Native}
use Rattle.dv_defs.specs.declared.run.Native.TheVariants as native
use Rattle.dv_machine.specs.Pending as pending
use Rattle.dv_machine.specs.Kind.{Kind}
use Rattle.dv_machine.specs.Kind as kind
use Rattle.dv_defs.specs.Numbers.{long_of, bits32}
use Rattle.dv_machine.specs.Heap.{Heap, kind_of, newest, alloc_string, cells_at, length_of}
use Rattle.dv_machine.specs.State.{truth, Left, Did, Throws, NoOutput, where_room, where_true, with_result, Here, onward, with_heap, with_output}
use Rattle.dv_machine.specs.Mem.{on_object}
use Rattle.dv_machine.specs.Texts.{text_of}
use Rattle.dv_defs.specs.Texts.{utf8}
use Rattle.dv_machine.specs.Threads.{wait_on, notify_on, notify_all_on, start_on, join_on, own_object, goes}
use Rattle.std.specs.Fmt.{signed_decimal}

-- a word as a number and as an object; the arguments were read before
abbrev pub number_of : Value → ℤ
number_of (v.Num n) = n
number_of x = pos 0

abbrev pub object_number : Value → ℕ
object_number (v.Ref o) = o
object_number x = 0

-- a half of a long
abbrev pub half_of : Value → ℕ
half_of (v.Lo n) = n
half_of (v.Hi n) = n
half_of x = 0

-- an argument word by its place
abbrev pub arg : List Value → ℕ → Value
arg xs k = slice_index_or xs k v.Undef

-- the native is done, with this result
abbrev pub gives : Here → Value → Did Left
gives h x = onward h h.shared (with_result h.frame h.next (pending.One x))

-- with a new object as its result
abbrev pub gives_object : Here → Heap → Did Left
gives_object h heap = onward h (with_heap h.shared heap) (with_result h.frame h.next (pending.One (v.Ref (newest heap))))

-- with a new string as its result, where there is room
abbrev pub new_text : Here → List ℕ → Did Left
new_text h s = where_room (alloc_string h.shared.heap s) (gives_object h)

-- a unit of a text, which the index may miss
abbrev pub gives_char : Here → Option ℕ → Did Left
gives_char h None = Throws named.IndexOutOfBounds
gives_char h (Some c) = gives h (v.Num (pos c))

abbrev pub char_at : Here → List ℕ → ℤ → Did Left
char_at h s (negsuc n) = Throws named.IndexOutOfBounds
char_at h s (pos k) = gives_char h (slice_get s k)

-- a string with the same units; null and other objects have none
abbrev pub same_text : List ℕ → Option Kind → Bool
same_text s (Some (kind.Str t)) = bytes_eq s t
same_text s k = false

-- the units of chars
abbrev pub units_in : List Value → List ℕ
units_in [] = []
units_in (x ∷ xs) = bits32 (number_of x) % 65536 ∷ units_in xs

-- count units from start on, where the array has them
abbrev pub some_chars : Here → ℕ → ℤ → ℤ → Did Left
some_chars h o (pos start) (pos count) =
    where_true (nat_le (start + count) (length_of h.shared.heap o)) named.IndexOutOfBounds
    (new_text h (units_in (take count (drop start (cells_at h.shared.heap o)))))
some_chars h o start count = Throws named.IndexOutOfBounds

-- one printing step, whole or not at all
abbrev pub printed : Here → List ℕ → Did Left
printed h bs =
    if nat_le (length h.shared.output + length bs) h.limits.output
    then goes h (with_output h.shared (h.shared.output ++ bs)) else NoOutput

-- a native with its argument words, the receiver's first
abbrev pub native_step : Here → Native → List Value → Did Left
native_step h native.Wait xs = wait_on h (object_number (arg xs 0))
native_step h native.Notify xs = notify_on h (object_number (arg xs 0))
native_step h native.NotifyAll xs = notify_all_on h (object_number (arg xs 0))
native_step h native.Start xs = start_on h (object_number (arg xs 0))
native_step h native.Join xs = join_on h (object_number (arg xs 0))
native_step h native.CurrentThread xs = gives h (v.Ref (own_object h))
native_step h native.Length xs = gives h (v.Num (pos (length (text_of h.shared.heap (object_number (arg xs 0))))))
native_step h native.CharAt xs = char_at h (text_of h.shared.heap (object_number (arg xs 0))) (number_of (arg xs 1))
native_step h native.Equals xs =
    gives h
    (truth
    (same_text (text_of h.shared.heap (object_number (arg xs 0)))
    (kind_of h.shared.heap (object_number (arg xs 1)))))
native_step h native.Concat xs =
    on_object (λ o. new_text h (text_of h.shared.heap (object_number (arg xs 0)) ++ text_of h.shared.heap o))
    (object_number (arg xs 1))
native_step h native.OfLong xs = new_text h (signed_decimal (long_of (half_of (arg xs 0)) (half_of (arg xs 1))))
native_step h native.OfChars xs = on_object (λ o. some_chars h o (number_of (arg xs 1)) (number_of (arg xs 2))) (object_number (arg xs 0))
native_step h native.Print xs = on_object (λ o. printed h (utf8 (text_of h.shared.heap o))) (object_number (arg xs 0))
native_step h native.Println xs = printed h (signed_decimal (number_of (arg xs 0)) ++ 10 ∷ [])
