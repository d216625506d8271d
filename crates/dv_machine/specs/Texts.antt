-- The guest strings of a heap.
use Rattle.std.specs.Prelude.{ℕ, List, [], Option, Some}
use Rattle.dv_machine.specs.Kind.{Kind}
use Rattle.dv_machine.specs.Kind as kind
use Rattle.dv_machine.specs.Heap.{Heap, kind_of}

abbrev pub text_in : Option Kind → List ℕ
text_in (Some (kind.Str s)) = s
text_in k = []

-- the units of a string; other objects have none
abbrev pub text_of : Heap → ℕ → List ℕ
text_of heap o = text_in (kind_of heap o)
