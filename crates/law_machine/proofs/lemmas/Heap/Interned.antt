-- Strings and Class objects that are looked up first, then made.
use Rattle.std.proofs.Common.{◌≡◌, ◌⊎◌, inl, inr, ℕ, List, [], ◌∷◌, ◌++◌, Bool, true, false, Option, Some, None, refl, ap, subst}
use Rattle.std.proofs.lemmas.List.Elements.{All-push}
use Rattle.std.proofs.lemmas.Option.{same_Some}
use Rattle.dv_defs.specs.declared.names.Ty.{Ty}
use Rattle.dv_defs.specs.Images.{Image}
use Rattle.dv_machine.specs.Kind.{Kind}
use Rattle.dv_machine.specs.Kind as kind
use Rattle.dv_machine.specs.Heap.{Heap, Got, kind_of, has_room, newest, grown_within, alloc_string, is_text, is_class_of, found_among, with_interned, with_class_object}
use Rattle.dv_machine.specs.WellTyped.{HeapFine}
use Rattle.law_machine.specs.StepLaws.{IsAdded, StringIsInterned, ClassObjectIsGot}
use Rattle.law_types.proofs.Facts.{no}
use Rattle.law_types.proofs.Equal.{ty_is, names_are}
use Rattle.law_machine.proofs.lemmas.Heap.Cells.{fit_grown}
use Rattle.law_machine.proofs.lemmas.Heap.Added.{is_added, room_is, bare_fits, string_is_added}

-- what is found passed the test
found_passes : (test : ℕ → Bool) (os : List ℕ) (o : ℕ) → found_among test os ≡ Some o → test o ≡ true
found_passes test [] o e = absurd (cc)
found_passes test (p ∷ os) o e = go (test p) refl e (found_passes test os o)
  where
    go : (b : Bool) → test p ≡ b → ◌≡◌ {A = Option ℕ} (elim b [ true ↦ Some p | false ↦ found_among test os ]) (Some o) → (found_among test os ≡ Some o → test o ≡ true) → test o ≡ true
    go true t e r = subst (λ (n : ℕ). test n ≡ true) (same_Some p o e) t
    go false t e r = r e

text_is : (k : Option Kind) (s : List ℕ) → is_text k s ≡ true → k ≡ Some (kind.Str s)
text_is (Some (kind.Str t)) s e = ap (λ x. Some (kind.Str x)) (names_are t s e)
text_is k s e = no e

class_is : (k : Option Kind) (t : Ty) → is_class_of k t ≡ true → k ≡ Some (kind.ClassOf t)
class_is (Some (kind.ClassOf s)) t e = ap (λ x. Some (kind.ClassOf x)) (ty_is s t e)
class_is k t e = no e

-- two heaps with the same objects and cells
module _ (image : Image) (before h : Heap) (o : ℕ) where
  -- the list of interned strings, or that of Class objects, with the new one at its end
  interned_fine : (s : List ℕ) → HeapFine image h → kind_of h o ≡ Some (kind.Str s) → HeapFine image (record h { interned = h.interned ++ o ∷ [] })
  interned_fine s f e = record {
    count = f.count;
    objects = λ p k q. fit_grown image h _ _ _ (λ p k q. q) (f.objects p k q);
    statics = λ x y q r. fit_grown image h _ _ _ (λ p k q. q) (f.statics x y q r);
    interned = All-push (λ p. (s : List ℕ) × (kind_of h p ≡ Some (kind.Str s))) h.interned o f.interned (s, e);
    class_objects = f.class_objects;
  }

  classes_fine : (t : Ty) → HeapFine image h → kind_of h o ≡ Some (kind.ClassOf t) → HeapFine image (record h { class_objects = h.class_objects ++ o ∷ [] })
  classes_fine t f e = record {
    count = f.count;
    objects = λ p k q. fit_grown image h _ _ _ (λ p k q. q) (f.objects p k q);
    statics = λ x y q r. fit_grown image h _ _ _ (λ p k q. q) (f.statics x y q r);
    interned = f.interned;
    class_objects = All-push (λ p. (t : Ty) × (kind_of h p ≡ Some (kind.ClassOf t))) h.class_objects o f.class_objects (t, e);
  }

abbrev IsInterned : Image → Heap → List ℕ → Got → Type 0
IsInterned image before s g = (kind_of g.heap g.object ≡ Some (kind.Str s)) × ((g.heap ≡ before) ⊎ IsAdded image before g.heap g.object (kind.Str s))

pub string_is_interned : StringIsInterned
string_is_interned image before s g fine e = found (found_among (λ o. is_text (kind_of before o) s) before.interned) refl e
  where
    made : (x : Option Heap) → alloc_string before s ≡ x → with_interned x ≡ Some g → IsInterned image before s g
    made None f e = absurd (cc)
    made (Some h) f e =
        let a = string_is_added image before h s fine f in
        let i : IsInterned image before s (record { object = newest h; heap = record h { interned = h.interned ++ newest h ∷ [] } }) = (a.made, inr (record { keeps = a.keeps; fresh = a.fresh; made = a.made; fine = interned_fine image before h (newest h) s a.fine a.made })) in
        subst (IsInterned image before s) (same_Some _ g e) i

    found : (x : Option ℕ) → found_among (λ o. is_text (kind_of before o) s) before.interned ≡ x → ◌≡◌ {A = Option Got} (elim x [ Some o ↦ Some (record { object = o; heap = before }) | None ↦ with_interned (alloc_string before s) ]) (Some g) → IsInterned image before s g
    found None f e = made (alloc_string before s) refl e
    found (Some o) f e =
        let i : IsInterned image before s (record { object = o; heap = before }) = (text_is (kind_of before o) s (found_passes (λ o. is_text (kind_of before o) s) before.interned o f), inl refl) in
        subst (IsInterned image before s) (same_Some _ g e) i

abbrev IsGotten : Image → Heap → Ty → Got → Type 0
IsGotten image before t g = (kind_of g.heap g.object ≡ Some (kind.ClassOf t)) × ((g.heap ≡ before) ⊎ IsAdded image before g.heap g.object (kind.ClassOf t))

class_is_added : (image : Image) (before after : Heap) (t : Ty) → HeapFine image before → grown_within before (kind.ClassOf t) [] 2 ≡ Some after → IsAdded image before after (newest after) (kind.ClassOf t)
class_is_added image before after t fine e = subst (λ (h : Heap). IsAdded image before h (newest h) (kind.ClassOf t)) (room_is (has_room before 2) _ after e) (is_added image before (kind.ClassOf t) [] 2 fine (bare_fits image _))

pub class_object_is_got : ClassObjectIsGot
class_object_is_got image before t g fine e = found (found_among (λ o. is_class_of (kind_of before o) t) before.class_objects) refl e
  where
    made : (x : Option Heap) → grown_within before (kind.ClassOf t) [] 2 ≡ x → with_class_object x ≡ Some g → IsGotten image before t g
    made None f e = absurd (cc)
    made (Some h) f e =
        let a = class_is_added image before h t fine f in
        let i : IsGotten image before t (record { object = newest h; heap = record h { class_objects = h.class_objects ++ newest h ∷ [] } }) = (a.made, inr (record { keeps = a.keeps; fresh = a.fresh; made = a.made; fine = classes_fine image before h (newest h) t a.fine a.made })) in
        subst (IsGotten image before t) (same_Some _ g e) i

    found : (x : Option ℕ) → found_among (λ o. is_class_of (kind_of before o) t) before.class_objects ≡ x → ◌≡◌ {A = Option Got} (elim x [ Some o ↦ Some (record { object = o; heap = before }) | None ↦ with_class_object (grown_within before (kind.ClassOf t) [] 2) ]) (Some g) → IsGotten image before t g
    found None f e = made (grown_within before (kind.ClassOf t) [] 2) refl e
    found (Some o) f e =
        let i : IsGotten image before t (record { object = o; heap = before }) = (class_is (kind_of before o) t (found_passes (λ o. is_class_of (kind_of before o) t) before.class_objects o f), inl refl) in
        subst (IsGotten image before t) (same_Some _ g e) i
