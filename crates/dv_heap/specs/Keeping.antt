-- How a heap is kept: the objects, the static fields, and the strings and Class objects that stand once, by what they are looked up by.
use Rattle.std.specs.Prelude.{◌≡◌, ◌<◌, ◌^◌, ℕ, List, [], ◌∷◌, length, map, Option, Some, slice_index}
use Rattle.dv_defs.specs.declared.names.Ty.{Ty}
use Rattle.dv_words.specs.declared.state.Kind.{Kind}
use Rattle.dv_words.specs.declared.state.Kind.TheVariants as kind
use Rattle.dv_words.specs.State.{WordHeap}
use Rattle.dv_heap.specs.Blocks.{Block}
use Rattle.dv_heap.specs.Objects.{Objects, kind_in, words_in, words_by}

-- the objects that are found by a key, in the order in which they were made
abbrev pub found : {K : Type 0} → List (K × ℕ) → List ℕ
found es = map (λ e. e.1) es

abbrev pub heap_in : Objects → List Block → List (List ℕ × ℕ) → List (Ty × ℕ) → ℕ → Option ℕ → WordHeap
heap_in x statics texts classes used limit =
    record {
      kinds = x.kinds;
      cells = x.cells;
      statics = map words_by statics;
      interned = found texts;
      class_objects = found classes;
      used = used;
      limit = limit;
    }

-- each is the string of its units
abbrev pub AreTexts : Objects → List (List ℕ × ℕ) → Type 0
AreTexts x [] = Unit {0}
AreTexts x (e ∷ es) = (kind_in x e.1 ≡ Some kind.Str) × (words_in x e.1 ≡ e.0) × AreTexts x es

-- each is the Class object of its type
abbrev pub AreClasses : Objects → List (Ty × ℕ) → Type 0
AreClasses x [] = Unit {0}
AreClasses x (e ∷ es) = (kind_in x e.1 ≡ Some (kind.ClassOf e.0)) × AreClasses x es

-- the words of strings are units
abbrev pub HaveUnits : Objects → Type 0
HaveUnits x = (o k : ℕ) → kind_in x o ≡ Some kind.Str → slice_index (words_in x o) k < 2 ^ 16

-- words that an object of this kind may have
abbrev pub AreUnits : Kind → List ℕ → Type 0
AreUnits k ws = k ≡ kind.Str → (j : ℕ) → slice_index ws j < 2 ^ 16

pub record IsKept (x : Objects) (texts : List (List ℕ × ℕ)) (classes : List (Ty × ℕ)) : Type 0 where
  pub count : length x.cells ≡ length x.kinds
  pub strings : AreTexts x texts
  pub types : AreClasses x classes
  pub units : HaveUnits x
