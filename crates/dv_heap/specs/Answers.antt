-- What the calls of a heap answer.
use Rattle.std.specs.Prelude.{◌≡◌, ◌<◌, ℕ, List, [], ◌∷◌, ◌++◌, Option, None, Some, Result, Ok, Err, length, slice_index_or}
use Rattle.dv_heap.specs.declared.error.HeapError.{HeapError}
use Rattle.dv_heap.specs.declared.error.HeapError.TheVariants as error
use Rattle.dv_words.specs.declared.state.Kind.{Kind}
use Rattle.dv_words.specs.State.{WordHeap}
use Rattle.dv_words.specs.Heaps.{Got, newest, words_of_object}

-- the object that was made last, where there was room
abbrev pub newest_of : Option WordHeap → Option Got
newest_of None = None
newest_of (Some h) = Some (record { object = newest h; heap = h })

-- the object and the heap are those that the definition gives; where it gives none, the heap is full, and the refusal tells how many words are
-- used and how many were asked for; the heap is as before, as it is where memory is wanting
abbrev pub IsGot : Result ℕ HeapError → Option Got → ℕ → WordHeap → WordHeap → Type 0
IsGot (Ok o) got cost old new = got ≡ Some (record { object = o; heap = new })
IsGot (Err (error.Full used needed)) got cost old new = (got ≡ None) × (used ≡ old.used) × (needed ≡ cost) × (new ≡ old)
IsGot (Err (error.Memory e)) got cost old new = new ≡ old

-- the heap with one object more, and so many words used
abbrev pub grown_to : WordHeap → Kind → List ℕ → ℕ → WordHeap
grown_to h k ws used =
    record {
      kinds = h.kinds ++ k ∷ [];
      cells = h.cells ++ ws ∷ [];
      statics = h.statics;
      interned = h.interned;
      class_objects = h.class_objects;
      used = used;
      limit = h.limit;
    }

-- the object has that word
pub record HasWord (h : WordHeap) (o k : ℕ) : Type 0 where
  pub positive : 0 < o
  pub within : k < length (words_of_object h o)

-- the static field has that word
pub record HasStatic (h : WordHeap) (f half : ℕ) : Type 0 where
  pub within : half < length (slice_index_or h.statics f [])
