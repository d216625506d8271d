-- Heaps on words are the erasures of those that they stand for.
use Rattle.std.proofs.Common.{◌≡◌, ℕ, List, [], ◌∷◌, All, Option, length, map, refl, sym, ap, subst, ◌∙◌, arith}
use Rattle.std.proofs.lemmas.List.Elements.{All-head, All-tail}
use Rattle.dv_machine.specs.Value.{Value}
use Rattle.dv_machine.specs.Kind as tagged_kind
use Rattle.dv_machine.specs.Heap.{Heap}
use Rattle.dv_words.specs.declared.state.Kind.{Kind}
use Rattle.dv_words.specs.Erasure.{all_words, erased_heap, erased_kind, erased_values, object_words}
use Rattle.law_words.specs.ErasureLaws.{HeapsAreErased}
use Rattle.dv_words.specs.Standing.{AllFit, AreWhole, HeapFits, HeapStands, IsWholeHeap, ObjectStands, ObjectsStand}
use Rattle.dv_words.specs.State.{WordHeap}
use Rattle.law_words.proofs.Erasing.{same_lists, same_words, stand_lists, stand_words}

same_object : (ws : List ℕ) (k : tagged_kind.Kind) (xs : List Value) → AllFit ws → ObjectStands ws k xs → ws ≡ object_words k xs
same_object ws (tagged_kind.Str s) xs f stands = stands
same_object ws (tagged_kind.Object c) xs f stands = same_words ws xs f stands
same_object ws (tagged_kind.Array t) xs f stands = same_words ws xs f stands
same_object ws (tagged_kind.ClassOf t) xs f stands = same_words ws xs f stands

object_stands : (k : tagged_kind.Kind) (xs : List Value) → AreWhole xs → ObjectStands (object_words k xs) k xs
object_stands (tagged_kind.Str s) xs h = refl
object_stands (tagged_kind.Object c) xs h = stand_words xs h
object_stands (tagged_kind.Array t) xs h = stand_words xs h
object_stands (tagged_kind.ClassOf t) xs h = stand_words xs h

same_objects : (wss : List (List ℕ)) (ks : List tagged_kind.Kind) (xss : List (List Value)) → All AllFit wss → ObjectsStand wss ks xss → wss ≡ all_words ks xss
same_objects [] [] [] f stand = refl
same_objects [] [] (xs ∷ xss) f stand = absurd stand
same_objects [] (k ∷ ks) [] f stand = absurd stand
same_objects [] (k ∷ ks) (xs ∷ xss) f stand = absurd stand
same_objects (ws ∷ wss) [] [] f stand = absurd stand
same_objects (ws ∷ wss) [] (xs ∷ xss) f stand = absurd stand
same_objects (ws ∷ wss) (k ∷ ks) [] f stand = absurd stand
same_objects (ws ∷ wss) (k ∷ ks) (xs ∷ xss) f stand =
    ap (λ us. us ∷ wss) (same_object ws k xs (All-head AllFit ws wss f) stand.0) ∙ ap (λ uss. object_words k xs ∷ uss) (same_objects wss ks xss (All-tail AllFit ws wss f) stand.1)

objects_stand : (ks : List tagged_kind.Kind) (xss : List (List Value)) → length xss ≡ length ks → All AreWhole xss → ObjectsStand (all_words ks xss) ks xss
objects_stand [] [] same h = tt
objects_stand [] (xs ∷ xss) same h = absurd (omega (arith, same))
objects_stand (k ∷ ks) [] same h = absurd (omega (arith, same))
objects_stand (k ∷ ks) (xs ∷ xss) same h = (object_stands k xs (All-head AreWhole xs xss h), objects_stand ks xss (omega (arith, same)) (All-tail AreWhole xs xss h))

abbrev heap_of : List Kind → List (List ℕ) → List (List ℕ) → List ℕ → List ℕ → ℕ → Option ℕ → WordHeap
heap_of ks cs ss is os used limit =
    record { kinds = ks; cells = cs; statics = ss; interned = is; class_objects = os; used = used; limit = limit }

same_heap : (w : WordHeap) (h : Heap) → HeapFits w → HeapStands w h → w ≡ erased_heap h
same_heap w h fits stands =
    let ks = map erased_kind h.kinds in
    let cs = all_words h.kinds h.cells in
    let ss = map erased_values h.statics in
    ap (λ x. heap_of x w.cells w.statics w.interned w.class_objects w.used w.limit) stands.kinds
    ∙ (ap (λ x. heap_of ks x w.statics w.interned w.class_objects w.used w.limit) (same_objects w.cells h.kinds h.cells fits.0 stands.cells)
    ∙ (ap (λ x. heap_of ks cs x w.interned w.class_objects w.used w.limit) (same_lists w.statics h.statics fits.1 stands.statics)
    ∙ (ap (λ x. heap_of ks cs ss x w.class_objects w.used w.limit) stands.interned
    ∙ (ap (λ x. heap_of ks cs ss h.interned x w.used w.limit) stands.class_objects
    ∙ (ap (λ x. heap_of ks cs ss h.interned h.class_objects x w.limit) stands.used
    ∙ ap (heap_of ks cs ss h.interned h.class_objects h.used) stands.limit)))))

heap_stands : (h : Heap) → length h.cells ≡ length h.kinds → IsWholeHeap h → HeapStands (erased_heap h) h
heap_stands h same whole =
    record {
      kinds = refl;
      cells = objects_stand h.kinds h.cells same whole.0;
      statics = stand_lists h.statics whole.1;
      interned = refl;
      class_objects = refl;
      used = refl;
      limit = refl;
    }

pub heaps_are_erased : HeapsAreErased
heaps_are_erased w h same fits whole = (same_heap w h fits, λ is. subst (λ t. HeapStands t h) (sym is) (heap_stands h same whole))
