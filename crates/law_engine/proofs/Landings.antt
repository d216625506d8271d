-- A call on words lands where the tagged machine's does; that of a constructor lands on no native.
use Rattle.std.proofs.Common.{◌≡◌, ℕ, Bool, true, false, Option, Some, None, refl, sym, ap, subst, ◌∙◌}
use Rattle.std.specs.Prelude.{◌&&◌, not, bytes_eq, if◌then◌else◌}
use Rattle.std.proofs.lemmas.Bool.{and_parts}
use Rattle.dv_defs.specs.declared.names.Ty.{Ty}
use Rattle.dv_defs.specs.declared.image.Select.{Select}
use Rattle.dv_defs.specs.declared.image.Select.TheVariants as select
use Rattle.dv_defs.specs.declared.run.Named.TheVariants as named
use Rattle.dv_machine.specs.Heap as tagged
use Rattle.dv_machine.specs.Heap.{Heap}
use Rattle.dv_defs.specs.Images.{Image}
use Rattle.dv_defs.specs.Names.{init_name}
use Rattle.dv_defs.specs.Order.{instance}
use Rattle.dv_defs.specs.Parts.{Call}
use Rattle.dv_defs.specs.Selecting.{selected}
use Rattle.dv_defs.specs.Pools.{Method, is_abstract, is_constructor, is_interface, is_static, own_type, parent_at}
use Rattle.dv_machine.specs.Calls as machine
use Rattle.dv_machine.specs.Calls.{Landing, Lacks, Lands, native_of, selected_from, unless_abstract}
use Rattle.dv_words.specs.Heaps as words
use Rattle.dv_words.specs.Standing.{HeapStands}
use Rattle.dv_words.specs.State.{WordHeap}
use Rattle.dv_words.specs.Calls as over
use Rattle.dv_words.specs.Threads.{class_of_kind}
use Rattle.law_machine.proofs.lemmas.Calls.Dispatched.{constructor_not_native}
use Rattle.law_words.proofs.Objects.{kind_is, type_is}
use Rattle.law_words.proofs.ThreadSteps.{class_by}

-- ---- the same landing

-- by whether the object's class has the method's interface, and by its class
abbrev by_interface : Image → Method → Bool → Option ℕ → Landing
by_interface image g has c =
    if is_interface image g.info.class.0 && not has then Lacks named.ClassChange else selected_from image c g.def.name g.def.proto

module _ (image : Image) (w : WordHeap) (h : Heap) (stands : HeapStands w h) where
  class_is : (o : ℕ) → class_of_kind image (words.kind_of w o) ≡ machine.class_of_kind image (tagged.kind_of h o)
  class_is o = ap (class_of_kind image) (kind_is w h o stands) ∙ class_by image (tagged.kind_of h o)

  object_is : (g : Method) (o : ℕ) → over.by_object image w g o ≡ machine.by_object image h g o
  object_is g o =
      ap (λ (t : Ty). by_interface image g (instance image t (own_type image g)) (class_of_kind image (words.kind_of w o))) (type_is image w h o stands) ∙
      ap (by_interface image g (machine.implements_it image h g o)) (class_is o)

  pub dispatch_is : (own : Method) (c : Call) (g : Method) (o : ℕ) → over.dispatch image w own c g o ≡ machine.dispatch image h own c g o
  unfolding machine.dispatch
  dispatch_is own Call.Static g o = refl
  dispatch_is own Call.Direct g o = refl
  dispatch_is own Call.Super g o = refl
  dispatch_is own Call.Virtual g o = object_is g o
  dispatch_is own Call.Interface g o = object_is g o

-- ---- calls of constructors

-- what a call lands on is no native
abbrev pub NoNative : Image → Landing → Type 0
NoNative image (Lands m) = native_of image m ≡ None
NoNative image (Lacks n) = Unit {0}

module _ (image : Image) (g : Method) (is : is_constructor g ≡ true) where
  unless_native : NoNative image (unless_abstract g)
  unless_native = by (is_abstract g)
    where
      by : (b : Bool) → NoNative image (if b then Lacks named.AbstractMethod else Lands g)
      by true = tt
      by false = constructor_not_native image g is

  named_init : bytes_eq g.def.name init_name ≡ true
  named_init = (and_parts (not (is_static g)) (bytes_eq g.def.name init_name) is).1

  -- a constructor is never selected
  selects_nothing : (c : ℕ) → selected image c g.def.name g.def.proto ≡ select.Abstract
  unfolding selected
  selects_nothing c = rw (named_init, selected) refl

  none_selected : (c : Option ℕ) → NoNative image (selected_from image c g.def.name g.def.proto)
  none_selected None = tt
  none_selected (Some c) = subst (λ (s : Select). NoNative image (machine.landing image s)) (sym (selects_nothing c)) tt

  none_by_object : (w : WordHeap) (o : ℕ) → NoNative image (over.by_object image w g o)
  none_by_object w o = by (over.lacks_interface image w g o)
    where
      by : (b : Bool) → NoNative image (if b then Lacks named.ClassChange else selected_from image (class_of_kind image (words.kind_of w o)) g.def.name g.def.proto)
      by true = tt
      by false = none_selected (class_of_kind image (words.kind_of w o))

  pub lands_on_no_native : (w : WordHeap) (own : Method) (c : Call) (o : ℕ) → NoNative image (over.dispatch image w own c g o)
  lands_on_no_native w own Call.Static o = unless_native
  lands_on_no_native w own Call.Direct o = unless_native
  lands_on_no_native w own Call.Super o = none_selected (parent_at image own.info.class.0)
  lands_on_no_native w own Call.Virtual o = none_by_object w o
  lands_on_no_native w own Call.Interface o = none_by_object w o
