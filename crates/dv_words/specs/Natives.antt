-- The native methods of the boot classes on words.
use Rattle.std.specs.Prelude.{ℕ, ◌+◌, ◌%◌, ◌++◌, Bool, true, false, List, [], ◌∷◌, length, map, take, drop, ℤ, pos, negsuc, Option, Some, None, bytes_eq, nat_le, slice_get, slice_index_or, if◌then◌else◌}
use Rattle.std.specs.Fmt.{signed_decimal}
use Rattle.dv_defs.specs.declared.run.Named.TheVariants as named
use Rattle.dv_defs.specs.declared.run.Native.{Native}
use Rattle.dv_defs.specs.declared.run.Native.TheVariants as native
use Rattle.dv_defs.specs.Numbers.{long_of}
use Rattle.dv_defs.specs.Texts.{utf8}
use Rattle.dv_machine.specs.Mem.{on_object}
use Rattle.dv_machine.specs.State.{Did, NoOutput, Throws, where_room, where_true}
use Rattle.dv_words.specs.declared.state.Kept.TheVariants as kept
use Rattle.dv_words.specs.declared.state.Kind.{Kind}
use Rattle.dv_words.specs.declared.state.Kind.TheVariants as kind
use Rattle.dv_words.specs.Heaps.{alloc_string, kind_of, length_of, newest, words_of_object}
use Rattle.dv_words.specs.Stacks.{given, gone}
use Rattle.dv_words.specs.State.{WordHeap}
use Rattle.dv_words.specs.Words.{int_of}
use Rattle.dv_words.specs.Mem.{truth_word}
use Rattle.dv_words.specs.Steps.{At, Left, goes, onward, with_heap, with_output}
use Rattle.dv_words.specs.Threads.{join_on, notify_all_on, notify_on, own_object, start_on, wait_on}

abbrev pub is_string : Option Kind → Bool
is_string (Some kind.Str) = true
is_string k = false

-- the units of a string; other objects have none
abbrev pub text_of : WordHeap → ℕ → List ℕ
text_of heap o = if is_string (kind_of heap o) then words_of_object heap o else []

-- an argument word by its place
abbrev pub arg : List ℕ → ℕ → ℕ
arg ws k = slice_index_or ws k 0

-- the native is done, with this word as its result
abbrev pub gives : At → ℕ → Did Left
gives h w = onward h h.shared (given (gone h.frame h.next) (kept.One w))

-- with a new object as its result
abbrev pub gives_object : At → WordHeap → Did Left
gives_object h heap = onward h (with_heap h.shared heap) (given (gone h.frame h.next) (kept.One (newest heap)))

-- with a new string as its result, where there is room
abbrev pub new_text : At → List ℕ → Did Left
new_text h s = where_room (alloc_string h.shared.heap s) (gives_object h)

-- a unit of a text, which the index may miss
abbrev pub gives_char : At → Option ℕ → Did Left
gives_char h None = Throws named.IndexOutOfBounds
gives_char h (Some c) = gives h c

abbrev pub char_at : At → List ℕ → ℤ → Did Left
char_at h s (negsuc n) = Throws named.IndexOutOfBounds
char_at h s (pos k) = gives_char h (slice_get s k)

-- a string with the same units; null and other objects have none
abbrev pub same_text : At → ℕ → ℕ → Bool
same_text h o p =
    if is_string (kind_of h.shared.heap p) then bytes_eq (text_of h.shared.heap o) (words_of_object h.shared.heap p) else false

-- the units of chars
abbrev pub units_in : List ℕ → List ℕ
units_in ws = map (λ w. w % 65536) ws

-- count units from start on, where the array has them
abbrev pub some_chars : At → ℕ → ℤ → ℤ → Did Left
some_chars h o (pos start) (pos count) =
    where_true (nat_le (start + count) (length_of h.shared.heap o)) named.IndexOutOfBounds
    (new_text h (units_in (take count (drop start (words_of_object h.shared.heap o)))))
some_chars h o start count = Throws named.IndexOutOfBounds

-- one printing step, whole or not at all
abbrev pub printed : At → List ℕ → Did Left
printed h bs =
    if nat_le (length h.shared.output + length bs) h.limits.output
    then goes h (with_output h.shared (h.shared.output ++ bs)) else NoOutput

-- a native with its argument words, the receiver's first
abbrev pub native_step : At → Native → List ℕ → Did Left
native_step h native.Wait ws = wait_on h (arg ws 0)
native_step h native.Notify ws = notify_on h (arg ws 0)
native_step h native.NotifyAll ws = notify_all_on h (arg ws 0)
native_step h native.Start ws = start_on h (arg ws 0)
native_step h native.Join ws = join_on h (arg ws 0)
native_step h native.CurrentThread ws = gives h (own_object h)
native_step h native.Length ws = gives h (length (text_of h.shared.heap (arg ws 0)))
native_step h native.CharAt ws = char_at h (text_of h.shared.heap (arg ws 0)) (int_of (arg ws 1))
native_step h native.Equals ws = gives h (truth_word (same_text h (arg ws 0) (arg ws 1)))
native_step h native.Concat ws =
    on_object (λ o. new_text h (text_of h.shared.heap (arg ws 0) ++ text_of h.shared.heap o)) (arg ws 1)
native_step h native.OfLong ws = new_text h (signed_decimal (long_of (arg ws 0) (arg ws 1)))
native_step h native.OfChars ws = on_object (λ o. some_chars h o (int_of (arg ws 1)) (int_of (arg ws 2))) (arg ws 0)
native_step h native.Print ws = on_object (λ o. printed h (utf8 (text_of h.shared.heap o))) (arg ws 0)
native_step h native.Println ws = printed h (signed_decimal (int_of (arg ws 0)) ++ 10 ∷ [])
