-- Objects by their numbers 1, 2, 3 ..: what each is, and its words.
use Rattle.std.specs.Prelude.{◌≡◌, ◌<◌, ℕ, zero, suc, pred, List, [], ◌∷◌, ◌++◌, map, Option, None, slice_get, slice_index_or, slice_set}
use Rattle.dv_words.specs.declared.state.Kind.{Kind}
use Rattle.dv_words.specs.declared.state.Kind.TheVariants as kind
use Rattle.dv_heap.specs.Blocks.{Block}

pub record Objects : Type 0 where
  pub kinds : List Kind
  pub cells : List (List ℕ)

abbrev pub kind_in : Objects → ℕ → Option Kind
kind_in x zero = None
kind_in x (suc o) = slice_get x.kinds o

abbrev pub words_in : Objects → ℕ → List ℕ
words_in x o = slice_index_or x.cells (pred o) []

-- one object more, at the end
abbrev pub with_object : Objects → Kind → List ℕ → Objects
with_object x k ws = record { kinds = x.kinds ++ k ∷ []; cells = x.cells ++ ws ∷ [] }

abbrev pub with_object_word : Objects → ℕ → ℕ → ℕ → Objects
with_object_word x o k w = record { kinds = x.kinds; cells = slice_set x.cells (pred o) (slice_set (words_in x o) k w) }

-- ---- how they are kept: a block for each, whose tag is the place of its kind in a list where each kind stands once

abbrev pub kind_by : List Kind → Block → Kind
kind_by ks b = slice_index_or ks b.tag kind.Str

abbrev pub words_by : Block → List ℕ
words_by b = b.words

abbrev pub objects_in : List Kind → List Block → Objects
objects_in ks bs = record { kinds = map (kind_by ks) bs; cells = map words_by bs }

-- each tag is a place of the list
abbrev pub AreTagged : ℕ → List Block → Type 0
AreTagged n [] = Unit {0}
AreTagged n (b ∷ bs) = (b.tag < n) × AreTagged n bs

-- the list as before, maybe with more at its end
abbrev pub IsContinued : List Kind → List Kind → Type 0
IsContinued old new = (more : List Kind) × (new ≡ old ++ more)
