-- Where the kinds of new objects are found.
use Rattle.std.specs.Prelude.{◌≡◌, ℕ, suc, List, Some, ◌⊎◌, slice_get, slice_index}
use Rattle.dv_words.specs.declared.state.Kind.{Kind}
use Rattle.dv_words.specs.declared.state.Kind.TheVariants as kind
use Rattle.dv_heap.specs.declared.borrowed.BorrowedKind.{BorrowedKind}
use Rattle.dv_heap.specs.declared.borrowed.BorrowedKind.TheVariants as borrowed

-- the kind that a borrowed one says
abbrev pub as_kind : BorrowedKind → Kind
as_kind (borrowed.Object class) = kind.Object class
as_kind (borrowed.Array ty) = kind.Array ty.now
as_kind borrowed.Str = kind.Str
as_kind (borrowed.ClassOf ty) = kind.ClassOf ty.now

-- the kind of a class's objects, by the number of the class
abbrev pub kind_of_class : ℕ → Kind
kind_of_class class = kind.Object (record { 0 = class })

-- each entry of a table by class that isn't 0 is one more than the place of that class's kind
abbrev pub AreNoted : List Kind → List ℕ → Type 0
AreNoted ks entries = (class place : ℕ) → slice_index entries class ≡ suc place → slice_get ks place ≡ Some (kind_of_class class)

-- what a table says is what it said before, or that this place is that of this class's kind
abbrev pub NotesAtMost : ℕ → ℕ → List ℕ → List ℕ → Type 0
NotesAtMost class place old new =
    (other there : ℕ) → slice_index new other ≡ suc there → (slice_index old other ≡ suc there) ⊎ ((other ≡ class) × (there ≡ place))
