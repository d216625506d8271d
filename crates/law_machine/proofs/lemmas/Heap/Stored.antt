-- A store of a value that fits its cell leaves the heap in order.
use Rattle.std.proofs.Common.{◌≡◌, ◌≢◌, ◌⊎◌, inl, inr, ℕ, zero, suc, ◌<◌, ◌≤◌, List, [], length, true, Some, refl, sym, ap, ◌∙◌, subst, arith}
use Rattle.std.specs.Prelude.{slice_set, slice_index_or}
use Rattle.std.proofs.lemmas.Bool.{cases_eq, cases_lt}
use Rattle.std.proofs.lemmas.List.{length-set, get_or-set_same, get_or-set_other, set_past}
use Rattle.std.proofs.lemmas.Option.{slice_get_within, same_Some}
use Rattle.dv_defs.specs.Images.{Image}
use Rattle.dv_machine.specs.Value.{Value}
use Rattle.dv_machine.specs.Value as v
use Rattle.dv_machine.specs.Kind.{Kind}
use Rattle.dv_defs.specs.Pools.{Field, field_at, is_static_field}
use Rattle.dv_typing.specs.RegTypes.{Types, type_at, reg_types}
use Rattle.dv_machine.specs.Heap.{Heap, Cells, kind_of, cells_at, with_cell, with_static, length_of}
use Rattle.dv_machine.specs.State.{reg_at}
use Rattle.dv_machine.specs.Conforming.{Conforms}
use Rattle.dv_machine.specs.WellTyped.{nobody, cell_types, CellsFit}
use Rattle.law_machine.specs.StepLaws.{StoreKeeps, StaticStoreKeeps}
use Rattle.law_machine.proofs.lemmas.Heap.Cells.{same_cell_types, fit_grown, fit_same}

-- one cell of some takes a value that fits it
fit_set : (image : Image) (heap : Heap) (xs : Cells) (ts : Types) (k : ℕ) (x : Value) → CellsFit image heap xs ts → Conforms image heap nobody x (type_at ts k) → CellsFit image heap (slice_set xs k x) ts
fit_set image heap xs ts k x f c = record { count = length-set xs k x ∙ f.count; each = λ j. go j (cases_eq j k) (cases_lt k (length xs)) }
  where
    go : (j : ℕ) → (j ≡ k) ⊎ (j ≢ k) → (k < length xs) ⊎ (length xs ≤ k) → Conforms image heap nobody (reg_at (slice_set xs k x) j) (type_at ts j)
    go j (inr d) w = subst (λ (y : Value). Conforms image heap nobody y (type_at ts j)) (sym (get_or-set_other xs k j x v.Undef d)) (f.each j)
    go j (inl e) (inl l) = subst (λ (i : ℕ). Conforms image heap nobody (reg_at (slice_set xs k x) i) (type_at ts i)) (sym e) (subst (λ (y : Value). Conforms image heap nobody y (type_at ts k)) (sym (get_or-set_same xs k x v.Undef l)) c)
    go j (inl e) (inr g) = subst (λ (ys : Cells). Conforms image heap nobody (reg_at ys j) (type_at ts j)) (sym (set_past xs k x g)) (f.each j)

pub store_keeps : StoreKeeps
store_keeps image heap zero k kind x fine has c = absurd (cc)
store_keeps image heap (suc o) k kind x fine has c = (record { count = length-set heap.cells o _ ∙ fine.count; objects = λ p y e. object p y e (cases_eq p o); statics = λ y f e s. fit_grown image heap _ _ _ (λ p z q. q) (fine.statics y f e s); interned = fine.interned; class_objects = fine.class_objects }, λ p y e. e)
  where
    xs : Cells
    xs = cells_at heap (suc o)

    within : o < length heap.cells
    within = omega (arith, slice_get_within heap.kinds o kind has, fine.count)

    own_cells : cells_at (with_cell heap (suc o) k x) (suc o) ≡ slice_set (cells_at heap (suc o)) k x
    own_cells = get_or-set_same heap.cells o (slice_set (cells_at heap (suc o)) k x) [] within

    other_cells : (p : ℕ) → p ≢ o → cells_at (with_cell heap (suc o) k x) (suc p) ≡ cells_at heap (suc p)
    other_cells p d = get_or-set_other heap.cells o p (slice_set (cells_at heap (suc o)) k x) [] d

    own : CellsFit image (with_cell heap (suc o) k x) (cells_at (with_cell heap (suc o) k x) (suc o)) (cell_types image (length_of (with_cell heap (suc o) k x) (suc o)) kind)
    own = fit_same image (with_cell heap (suc o) k x) _ _ _ _ (sym own_cells) (same_cell_types image heap (with_cell heap (suc o) k x) (suc o) (suc o) kind has has (sym (ap length own_cells ∙ length-set (cells_at heap (suc o)) k x))) (fit_grown image heap (with_cell heap (suc o) k x) _ _ (λ p z q. q) (fit_set image heap (cells_at heap (suc o)) _ k x (fine.objects o kind has) c))

    object : (p : ℕ) (y : Kind) → kind_of heap (suc p) ≡ Some y → (p ≡ o) ⊎ (p ≢ o) → CellsFit image (with_cell heap (suc o) k x) (cells_at (with_cell heap (suc o) k x) (suc p)) (cell_types image (length_of (with_cell heap (suc o) k x) (suc p)) y)
    object p y e (inr d) = fit_same image (with_cell heap (suc o) k x) _ _ _ _ (sym (other_cells p d)) (same_cell_types image heap (with_cell heap (suc o) k x) (suc p) (suc p) y e e (ap length (sym (other_cells p d)))) (fit_grown image heap (with_cell heap (suc o) k x) _ _ (λ p z q. q) (fine.objects p y e))
    object p y e (inl s) =
        let same : kind ≡ y = same_Some kind y (sym has ∙ ap (λ (n : ℕ). kind_of heap (suc n)) (sym s) ∙ e) in
        subst (λ (n : ℕ). CellsFit image (with_cell heap (suc o) k x) (cells_at (with_cell heap (suc o) k x) (suc n)) (cell_types image (length_of (with_cell heap (suc o) k x) (suc n)) y)) (sym s) (subst (λ (z : Kind). CellsFit image (with_cell heap (suc o) k x) (cells_at (with_cell heap (suc o) k x) (suc o)) (cell_types image (length_of (with_cell heap (suc o) k x) (suc o)) z)) same own)

pub static_store_keeps : StaticStoreKeeps
static_store_keeps image heap n k f x fine has c = (record { count = fine.count; objects = λ p y e. fit_grown image heap (with_static heap n k x) _ _ (λ p z q. q) (fine.objects p y e); statics = λ m g e s. static m g e s (cases_eq m n) (cases_lt n (length heap.statics)); interned = fine.interned; class_objects = fine.class_objects }, λ p y e. e)
  where
    own : is_static_field f ≡ true → (n < length heap.statics) ⊎ (length heap.statics ≤ n) → CellsFit image (with_static heap n k x) (slice_index_or (with_static heap n k x).statics n []) (reg_types f.def.ty)
    own s (inl l) = fit_same image (with_static heap n k x) _ _ _ _ (sym (get_or-set_same heap.statics n (slice_set (slice_index_or heap.statics n []) k x) [] l)) refl (fit_grown image heap (with_static heap n k x) _ _ (λ p z q. q) (fit_set image heap (slice_index_or heap.statics n []) _ k x (fine.statics n f has s) c))
    own s (inr g) = fit_same image (with_static heap n k x) _ _ _ _ (sym (ap (λ (ys : List Cells). slice_index_or ys n []) (set_past heap.statics n (slice_set (slice_index_or heap.statics n []) k x) g))) refl (fit_grown image heap (with_static heap n k x) _ _ (λ p z q. q) (fine.statics n f has s))

    static : (m : ℕ) (g : Field) → field_at image m ≡ Some g → is_static_field g ≡ true → (m ≡ n) ⊎ (m ≢ n) → (n < length heap.statics) ⊎ (length heap.statics ≤ n) → CellsFit image (with_static heap n k x) (slice_index_or (with_static heap n k x).statics m []) (reg_types g.def.ty)
    static m g e s (inr d) l = fit_same image (with_static heap n k x) _ _ _ _ (sym (get_or-set_other heap.statics n m (slice_set (slice_index_or heap.statics n []) k x) [] d)) refl (fit_grown image heap (with_static heap n k x) _ _ (λ p z q. q) (fine.statics m g e s))
    static m g e s (inl i) l =
        let same : f ≡ g = same_Some f g (sym has ∙ ap (field_at image) (sym i) ∙ e) in
        let is : is_static_field f ≡ true = ap is_static_field same ∙ s in
        subst (λ (j : ℕ). CellsFit image (with_static heap n k x) (slice_index_or (with_static heap n k x).statics j []) (reg_types g.def.ty)) (sym i) (subst (λ (h : Field). CellsFit image (with_static heap n k x) (slice_index_or (with_static heap n k x).statics n []) (reg_types h.def.ty)) same (own is l))
