-- A heap with one object more is in order, and keeps what was there.
use Rattle.std.proofs.Common.{◌≡◌, ◌⊎◌, inl, inr, ℕ, zero, suc, ◌+◌, ◌*◌, List, [], ◌∷◌, length, Bool, true, false, Option, Some, None, refl, sym, ap, ◌∙◌, subst, arith}
use Rattle.std.specs.Prelude.{slice_get}
use Rattle.std.proofs.lemmas.List.{length_push, get_or_append_left, get_or_push}
use Rattle.std.proofs.lemmas.List.Elements.{All-weaker}
use Rattle.std.proofs.lemmas.Option.{slice_get_within, same_Some}
use Rattle.dv_defs.specs.declared.names.Ty.{Ty}
use Rattle.dv_defs.specs.Images.{Image}
use Rattle.dv_machine.specs.Kind.{Kind}
use Rattle.dv_machine.specs.Kind as kind
use Rattle.dv_defs.specs.Types.{component, words_of}
use Rattle.dv_machine.specs.Heap.{Heap, Cells, kind_of, class_cells, fresh_cells, fresh_elements, has_room, grown, newest, cells_at, length_of}
use Rattle.dv_machine.specs.WellTyped.{element_types, cell_types, CellsFit, HeapFine}
use Rattle.law_machine.specs.Premises.{KeepsKinds}
use Rattle.law_machine.specs.StepLaws.{IsAdded, ObjectIsAdded, ArrayIsAdded, StringIsAdded}
use Rattle.law_machine.proofs.lemmas.Common.Lists.{get_front, get_new, get_end, push_cases}
use Rattle.law_machine.proofs.lemmas.Heap.Cells.{fresh_fit, class_are_cells, element_cells, fresh_elements_are, same_cell_types, array_length, fit_grown, fit_same}

pub grown_keeps : (h : Heap) (k : Kind) (cells : Cells) (cost : ℕ) → KeepsKinds h (grown h k cells cost)
grown_keeps h k cells cost zero x e = e
grown_keeps h k cells cost (suc o) x e = get_front h.kinds (k ∷ []) o x e

module _ (image : Image) (h : Heap) (k : Kind) (cells : Cells) (cost : ℕ) (fine : HeapFine image h) where
  newest_is : newest (grown h k cells cost) ≡ suc (length h.kinds)
  newest_is = omega (arith, length_push h.kinds k)

  pub new_kind : kind_of (grown h k cells cost) (newest (grown h k cells cost)) ≡ Some k
  new_kind = subst (λ (n : ℕ). kind_of (grown h k cells cost) n ≡ Some k) (sym newest_is) (get_new h.kinds k)

  pub new_cells : cells_at (grown h k cells cost) (newest (grown h k cells cost)) ≡ cells
  new_cells = subst (λ (n : ℕ). cells_at (grown h k cells cost) n ≡ cells) (sym newest_is) (get_or_push h.cells cells [] (length h.kinds) fine.count)

  was_new : kind_of h (newest (grown h k cells cost)) ≡ None
  was_new = subst (λ (n : ℕ). kind_of h n ≡ None) (sym newest_is) (get_end h.kinds)

  -- an object that was there has its cells still
  old_cells : (o : ℕ) (x : Kind) → slice_get h.kinds o ≡ Some x → cells_at (grown h k cells cost) (suc o) ≡ cells_at h (suc o)
  old_cells o x e = get_or_append_left h.cells (cells ∷ []) [] o (omega (arith, slice_get_within h.kinds o x e, fine.count))

  module _ (fits : CellsFit image (grown h k cells cost) cells (cell_types image (length_of (grown h k cells cost) (newest (grown h k cells cost))) k)) where
    object_fits : (o : ℕ) (x : Kind) → kind_of (grown h k cells cost) (suc o) ≡ Some x → CellsFit image (grown h k cells cost) (cells_at (grown h k cells cost) (suc o)) (cell_types image (length_of (grown h k cells cost) (suc o)) x)
    object_fits o x e = go (push_cases h.kinds k x o e)
      where
        go : (slice_get h.kinds o ≡ Some x) ⊎ ((o ≡ length h.kinds) × (k ≡ x)) → CellsFit image (grown h k cells cost) (cells_at (grown h k cells cost) (suc o)) (cell_types image (length_of (grown h k cells cost) (suc o)) x)
        go (inl f) = fit_same image (grown h k cells cost) _ _ _ _ (sym (old_cells o x f)) (same_cell_types image h (grown h k cells cost) (suc o) (suc o) x f e (ap length (sym (old_cells o x f)))) (fit_grown image h (grown h k cells cost) _ _ (grown_keeps h k cells cost) (fine.objects o x f))
        go (inr p) =
            let same : newest (grown h k cells cost) ≡ suc o = newest_is ∙ ap suc (sym p.0) in
            subst (λ (n : ℕ). CellsFit image (grown h k cells cost) (cells_at (grown h k cells cost) n) (cell_types image (length_of (grown h k cells cost) n) x)) same (subst (λ (y : Kind). CellsFit image (grown h k cells cost) (cells_at (grown h k cells cost) (newest (grown h k cells cost))) (cell_types image (length_of (grown h k cells cost) (newest (grown h k cells cost))) y)) p.1 (fit_same image (grown h k cells cost) _ _ _ _ (sym new_cells) refl fits))

    pub fine_grown : HeapFine image (grown h k cells cost)
    fine_grown = record {
      count = omega (arith, fine.count, length_push h.kinds k, length_push h.cells cells);
      objects = object_fits;
      statics = λ x f e s. fit_grown image h (grown h k cells cost) _ _ (grown_keeps h k cells cost) (fine.statics x f e s);
      interned = All-weaker (λ o. (s : List ℕ) × (kind_of h o ≡ Some (kind.Str s))) (λ o. (s : List ℕ) × (kind_of (grown h k cells cost) o ≡ Some (kind.Str s))) (λ o p. (p.0, grown_keeps h k cells cost o _ p.1)) h.interned fine.interned;
      class_objects = All-weaker (λ o. (t : Ty) × (kind_of h o ≡ Some (kind.ClassOf t))) (λ o. (t : Ty) × (kind_of (grown h k cells cost) o ≡ Some (kind.ClassOf t))) (λ o p. (p.0, grown_keeps h k cells cost o _ p.1)) h.class_objects fine.class_objects;
    }

    pub is_added : IsAdded image h (grown h k cells cost) (newest (grown h k cells cost)) k
    is_added = record { keeps = grown_keeps h k cells cost; fresh = was_new; made = new_kind; fine = fine_grown }

-- where there was room
pub room_is : (b : Bool) (x y : Heap) → ◌≡◌ {A = Option Heap} (elim b [ true ↦ Some x | false ↦ None ]) (Some y) → x ≡ y
room_is true x y e = same_Some x y e
room_is false x y e = absurd (cc)

pub object_is_added : ObjectIsAdded
object_is_added image before after c fine e = subst (λ (h : Heap). IsAdded image before h (newest h) (kind.Object (record { 0 = c }))) (room_is (has_room before (2 + length (class_cells image c))) _ after e) (is_added image before (kind.Object (record { 0 = c })) (fresh_cells (class_cells image c)) (2 + length (class_cells image c)) fine (fresh_fit image _ (class_cells image c) (class_are_cells image c)))

abbrev array_cost : Ty → ℕ → ℕ
array_cost t n = 2 + n * words_of (component t)

abbrev with_array : Heap → Ty → ℕ → Heap
with_array h t n = grown h (kind.Array t) (fresh_elements t n) (array_cost t n)

new_length : (image : Image) (h : Heap) (t : Ty) (n : ℕ) → HeapFine image h → length_of (with_array h t n) (newest (with_array h t n)) ≡ n
new_length image h t n fine = array_length (with_array h t n) (newest (with_array h t n)) n t (new_kind image h (kind.Array t) (fresh_elements t n) (array_cost t n) fine) (new_cells image h (kind.Array t) (fresh_elements t n) (array_cost t n) fine)

array_fits : (image : Image) (h : Heap) (t : Ty) (n : ℕ) → HeapFine image h → CellsFit image (with_array h t n) (fresh_elements t n) (cell_types image (length_of (with_array h t n) (newest (with_array h t n))) (kind.Array t))
array_fits image h t n fine = fit_same image (with_array h t n) _ _ _ _ (sym (fresh_elements_are t n)) (ap (λ m. element_types m (component t)) (sym (new_length image h t n fine))) (fresh_fit image (with_array h t n) (element_types n (component t)) (element_cells n (component t)))

pub array_is_added : ArrayIsAdded
array_is_added image before after t n fine e = subst (λ (h : Heap). IsAdded image before h (newest h) (kind.Array t) × (length_of h (newest h) ≡ n)) (room_is (has_room before (array_cost t n)) _ after e) (is_added image before (kind.Array t) (fresh_elements t n) (array_cost t n) fine (array_fits image before t n fine), new_length image before t n fine)

-- an object without cells
pub bare_fits : (image : Image) (heap : Heap) → CellsFit image heap [] []
bare_fits image heap = record { count = refl; each = λ k. tt }

pub string_is_added : StringIsAdded
string_is_added image before after s fine e = subst (λ (h : Heap). IsAdded image before h (newest h) (kind.Str s)) (room_is (has_room before (2 + length s)) _ after e) (is_added image before (kind.Str s) [] (2 + length s) fine (bare_fits image _))
