-- The types of objects by their kinds.
use Rattle.std.proofs.Common.{◌≡◌, refl, ap, sym, ℕ, List, Bool, false, ◌∙◌}
use Rattle.std.specs.Prelude.{Option, Some, None, is_some}
use Rattle.dv_defs.specs.Images.{Image}
use Rattle.dv_defs.specs.Names.{object_name}
use Rattle.dv_defs.specs.Order.{instance}
use Rattle.dv_defs.specs.Types.{of_class}
use Rattle.dv_words.specs.declared.state.Kind.{Kind}
use Rattle.dv_words.specs.Heaps.{kind_of}
use Rattle.dv_words.specs.State.{WordHeap}
use Rattle.dv_words.specs.Mem.{type_of, type_of_kind}

typed_nothing : (image : Image) (k : Option Kind) → is_some k ≡ false → type_of_kind image k ≡ of_class object_name
typed_nothing image None e = refl
typed_nothing image (Some k) e = absurd (cc e)

-- what isn't there is an Object
pub none_under : (image : Image) (h : WordHeap) (o : ℕ) (name : List ℕ) (b : Bool) → is_some (kind_of h o) ≡ false →
    b ≡ instance image (of_class object_name) (of_class name) → b ≡ instance image (type_of image h o) (of_class name)
none_under image h o name b none is = is ∙ ap (λ t. instance image t (of_class name)) (sym (typed_nothing image (kind_of h o) none))

-- an object of this kind
pub some_under : (image : Image) (h : WordHeap) (o : ℕ) (name : List ℕ) (k : Kind) (b : Bool) → kind_of h o ≡ Some k →
    b ≡ instance image (type_of_kind image (Some k)) (of_class name) → b ≡ instance image (type_of image h o) (of_class name)
some_under image h o name k b some is = is ∙ ap (λ s. instance image (type_of_kind image s) (of_class name)) (sym some)
