-- Heaps on words: what each call makes of them.
use Rattle.std.specs.Prelude.{◌<◌, ◌≤◌, ℕ, zero, suc, pred, ◌+◌, ◌*◌, ◌/◌, ◌++◌, Bool, true, false, List, [], ◌∷◌, length, map, replicate, Option, Some, None, slice_get, slice_set, slice_index_or, nat_le, bytes_eq}
use Rattle.dv_defs.specs.declared.names.Ty.{Ty}
use Rattle.dv_defs.specs.Images.{Image}
use Rattle.dv_machine.specs.Heap.{class_cells, found_among}
use Rattle.dv_defs.specs.Types.{component, ty_eq, words_of}
use Rattle.dv_machine.specs.Opening.{field_cells}
use Rattle.dv_words.specs.declared.state.Kind.{Kind}
use Rattle.dv_words.specs.declared.state.Kind.TheVariants as kind
use Rattle.dv_words.specs.Erasure.{erased_values}
use Rattle.dv_words.specs.State.{WordHeap}
use Rattle.dv_words.specs.Words.{word_at}

-- ---- objects

abbrev pub kind_of : WordHeap → ℕ → Option Kind
kind_of h zero = None
kind_of h (suc o) = slice_get h.kinds o

abbrev pub words_of_object : WordHeap → ℕ → List ℕ
words_of_object h o = slice_index_or h.cells (pred o) []

-- a word of an object, 0 where there is none
abbrev pub word_in : WordHeap → ℕ → ℕ → ℕ
word_in h o k = word_at (words_of_object h o) k

abbrev pub with_word : WordHeap → ℕ → ℕ → ℕ → WordHeap
with_word h o k w = record h { cells = slice_set h.cells (pred o) (slice_set (words_of_object h o) k w) }

-- how many elements an array has, or units a string
abbrev pub length_of : WordHeap → ℕ → ℕ
length_of h o = counted_by (kind_of h o)
  where
    counted_by : Option Kind → ℕ
    counted_by (Some (kind.Array t)) = length (words_of_object h o) / words_of (component t)
    counted_by k = length (words_of_object h o)

-- ---- statics

abbrev pub static_in : WordHeap → ℕ → ℕ → ℕ
static_in h f half = word_at (slice_index_or h.statics f []) half

abbrev pub with_static : WordHeap → ℕ → ℕ → ℕ → WordHeap
with_static h f half w = record h { statics = slice_set h.statics f (slice_set (slice_index_or h.statics f []) half w) }

-- ---- new objects

abbrev pub is_within : Option ℕ → ℕ → Bool
is_within None n = true
is_within (Some limit) n = nat_le n limit

abbrev pub has_room : WordHeap → ℕ → Bool
has_room h n = is_within h.limit (h.used + n)

abbrev pub counted_by : Option ℕ → ℕ → ℕ → ℕ
counted_by None used n = used
counted_by (Some limit) used n = used + n

-- the heap with one object more; its number is the length of the new list of kinds
abbrev pub grown : WordHeap → Kind → List ℕ → ℕ → WordHeap
grown h k ws cost =
    record {
      kinds = h.kinds ++ k ∷ [];
      cells = h.cells ++ ws ∷ [];
      statics = h.statics;
      interned = h.interned;
      class_objects = h.class_objects;
      used = counted_by h.limit h.used cost;
      limit = h.limit;
    }

abbrev pub newest : WordHeap → ℕ
newest h = length h.kinds

-- none where it is full
abbrev pub grown_within : WordHeap → Kind → List ℕ → ℕ → Option WordHeap
grown_within h k ws cost = elim (has_room h cost) [ true ↦ Some (grown h k ws cost) | false ↦ None ]

-- what an object costs: two words and its own
abbrev pub cost_of_object : Image → ℕ → ℕ
cost_of_object image c = 2 + length (class_cells image c)

abbrev pub cost_of_array : Ty → ℕ → ℕ
cost_of_array t n = 2 + n * words_of (component t)

abbrev pub alloc_object : Image → WordHeap → ℕ → Option WordHeap
alloc_object image h c =
    grown_within h (kind.Object (record { 0 = c })) (replicate (length (class_cells image c)) 0) (cost_of_object image c)

abbrev pub alloc_array : WordHeap → Ty → ℕ → Option WordHeap
alloc_array h t n = grown_within h (kind.Array t) (replicate (n * words_of (component t)) 0) (cost_of_array t n)

abbrev pub alloc_string : WordHeap → List ℕ → Option WordHeap
alloc_string h s = grown_within h kind.Str s (2 + length s)

-- ---- strings and Class objects that stand once

-- an object is the string of these units
abbrev pub is_text : WordHeap → List ℕ → ℕ → Bool
is_text h s o = is_string (kind_of h o)
  where
    is_string : Option Kind → Bool
    is_string (Some kind.Str) = bytes_eq (words_of_object h o) s
    is_string k = false

abbrev pub is_class_of : WordHeap → Ty → ℕ → Bool
is_class_of h t o = is_class (kind_of h o)
  where
    is_class : Option Kind → Bool
    is_class (Some (kind.ClassOf s)) = ty_eq s t
    is_class k = false

-- an object with the heap that has it
pub record Got : Type 0 where
  pub object : ℕ
  pub heap : WordHeap

abbrev pub with_interned : Option WordHeap → Option Got
with_interned None = None
with_interned (Some h) = Some (record { object = newest h; heap = record h { interned = h.interned ++ newest h ∷ [] } })

abbrev pub with_class_object : Option WordHeap → Option Got
with_class_object None = None
with_class_object (Some h) = Some (record { object = newest h; heap = record h { class_objects = h.class_objects ++ newest h ∷ [] } })

abbrev pub intern : WordHeap → List ℕ → Option Got
intern h s =
    elim (found_among (is_text h s) h.interned) [
      | Some o ↦ Some (record { object = o; heap = h })
      | None ↦ with_interned (alloc_string h s)
    ]

abbrev pub class_object : WordHeap → Ty → Option Got
class_object h t =
    elim (found_among (is_class_of h t) h.class_objects) [
      | Some o ↦ Some (record { object = o; heap = h })
      | None ↦ with_class_object (grown_within h (kind.ClassOf t) [] 2)
    ]

-- ---- the first heap

-- no object, and the static fields with the numbers with which they are declared
abbrev pub uncounted : Image → WordHeap
uncounted image =
    record {
      kinds = [];
      cells = [];
      statics = map erased_values (field_cells image image.fields 0);
      interned = [];
      class_objects = [];
      used = 0;
      limit = None;
    }

-- from here on words are counted
abbrev pub counting : WordHeap → ℕ → WordHeap
counting h limit = record h { used = 0; limit = Some limit }
