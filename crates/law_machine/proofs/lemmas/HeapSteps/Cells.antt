-- Words that are read from cells and stored in them.
use Rattle.std.proofs.Common.{◌≡◌, ℕ, zero, suc, ◌+◌, ◌<◌, List, [], ◌∷◌, length, Bool, true, false, Some, refl, sym, ap, ◌∙◌, subst, arith}
use Rattle.std.specs.Prelude.{slice_set, if◌then◌else◌}
use Rattle.std.proofs.lemmas.List.{length-set, get_or-set_same}
use Rattle.std.proofs.lemmas.Option.{slice_get_within}
use Rattle.dv_defs.specs.declared.names.Ty.{Ty}
use Rattle.dv_defs.specs.Images.{Image}
use Rattle.dv_machine.specs.Value.{Value}
use Rattle.dv_machine.specs.Value as v
use Rattle.dv_machine.specs.Kind.{Kind}
use Rattle.dv_typing.specs.declared.typing.RegType.{RegType}
use Rattle.dv_typing.specs.declared.typing.RegType.TheVariants as ty
use Rattle.dv_defs.specs.Types.{is_long, is_reference}
use Rattle.dv_defs.specs.Pools.{Field, field_at}
use Rattle.dv_typing.specs.RegTypes.{Types, type_at, reg_types, single_type}
use Rattle.dv_machine.specs.Heap.{Heap, kind_of, cells_at, cell_at, with_cell, with_static, length_of}
use Rattle.dv_machine.specs.State.{reg_at}
use Rattle.dv_machine.specs.Mem.{words_at, narrowed, narrowed_all, stored, static_stored}
use Rattle.dv_machine.specs.Conforming.{Own, Fits, IsThere, Conforms, IsUninit, RefFine}
use Rattle.dv_machine.specs.WellTyped.{nobody, cell_types, HeapFine}
use Rattle.law_machine.specs.Premises.{KeepsKinds}
use Rattle.law_types.proofs.Facts.{plus_zero, plus_suc}
use Rattle.law_machine.proofs.lemmas.Growth.Kinds.{conforms_grown}
use Rattle.law_machine.proofs.lemmas.Heap.Cells.{IsCell, AreCells, same_cell_types}
use Rattle.law_machine.proofs.lemmas.Heap.Stored.{store_keeps, static_store_keeps}

-- ---- what a cell holds fits whatever frame it goes to

pub cell_any : (image : Image) (heap : Heap) (own own' : Own) (y : Value) (u : RegType) → IsCell u → Conforms image heap own y u → Conforms image heap own' y u
cell_any image heap own own' v.Zero ty.Int i c = tt
cell_any image heap own own' (v.Num n) ty.Int i c = tt
cell_any image heap own own' (v.Lo n) ty.LongLo i c = tt
cell_any image heap own own' (v.Hi n) ty.LongHi i c = tt
cell_any image heap own own' v.Zero (ty.Class t) i c = tt
cell_any image heap own own' (v.Ref o) (ty.Class t) i c = c
cell_any image heap own own' y ty.Int i c = absurd c
cell_any image heap own own' y ty.LongLo i c = absurd c
cell_any image heap own own' y ty.LongHi i c = absurd c
cell_any image heap own own' y (ty.Class t) i c = absurd c
cell_any image heap own own' y u i c = absurd i

pub fits_there : (image : Image) (heap : Heap) (o : ℕ) (t : Ty) → Fits image heap o t → IsThere image heap o
fits_there image heap zero t f = tt
fits_there image heap (suc o) t f = f.object

pub cell_ref : (image : Image) (heap : Heap) (own : Own) (y : Value) (u : RegType) → IsCell u → Conforms image heap own y u → RefFine image heap y
cell_ref image heap own (v.Ref o) (ty.Class t) i c = fits_there image heap o t c
cell_ref image heap own (v.Ref o) ty.Int i c = absurd c
cell_ref image heap own (v.Ref o) ty.LongLo i c = absurd c
cell_ref image heap own (v.Ref o) ty.LongHi i c = absurd c
cell_ref image heap own (v.Ref o) u i c = absurd i
cell_ref image heap own y u i c = tt

pub cell_plain : (u : RegType) → IsCell u → IsUninit u → ⊥
cell_plain (ty.Uninit a) i w = i
cell_plain ty.UninitThis i w = i
cell_plain u i w = w

pub single_cell : (t : Ty) → IsCell (single_type t)
single_cell t = go (is_reference t)
  where
    go : (b : Bool) → IsCell (elim b as (λ x. RegType) [ true ↦ ty.Class t | false ↦ ty.Int ])
    go true = tt
    go false = tt

-- ---- a store narrows numbers alone

pub narrowed_conforms : (image : Image) (heap : Heap) (t : Ty) (y : Value) (u : RegType) → IsCell u → Conforms image heap nobody y u → Conforms image heap nobody (narrowed t y) u
narrowed_conforms image heap t (v.Num n) ty.Int i c = tt
narrowed_conforms image heap t (v.Num n) ty.LongLo i c = absurd c
narrowed_conforms image heap t (v.Num n) ty.LongHi i c = absurd c
narrowed_conforms image heap t (v.Num n) (ty.Class d) i c = absurd c
narrowed_conforms image heap t (v.Num n) u i c = absurd i
narrowed_conforms image heap t y u i c = c

pub narrowed_count : (t : Ty) (ys : List Value) → length (narrowed_all t ys) ≡ length ys
narrowed_count t [] = refl
narrowed_count t (y ∷ ys) = ap suc (narrowed_count t ys)

pub narrowed_each : (image : Image) (heap : Heap) (t : Ty) (ys : List Value) (ts : Types) → AreCells ts → ((j : ℕ) → Conforms image heap nobody (reg_at ys j) (type_at ts j)) → (j : ℕ) → Conforms image heap nobody (reg_at (narrowed_all t ys) j) (type_at ts j)
narrowed_each image heap t [] ts a c j = c j
narrowed_each image heap t (y ∷ ys) [] a c j = tt
narrowed_each image heap t (y ∷ ys) (u ∷ us) a c zero = narrowed_conforms image heap t y u a.0 (c zero)
narrowed_each image heap t (y ∷ ys) (u ∷ us) a c (suc j) = narrowed_each image heap t ys us a.1 (λ i. c (suc i)) j

-- ---- stores of several words

module _ (image : Image) where
  pub stored_fine : (heap : Heap) (o : ℕ) (k : Kind) (at : ℕ) (ys : List Value) → HeapFine image heap → kind_of heap o ≡ Some k → ((j : ℕ) → j < length ys → Conforms image heap nobody (reg_at ys j) (type_at (cell_types image (length_of heap o) k) (at + j))) → HeapFine image (stored heap o at ys) × KeepsKinds heap (stored heap o at ys)
  stored_fine heap o k at [] fine has c = (fine, λ p q e. e)
  stored_fine heap o k at (y ∷ ys) fine has c =
      let here : Conforms image heap nobody y (type_at (cell_types image (length_of heap o) k) at) = subst (λ (i : ℕ). Conforms image heap nobody y (type_at (cell_types image (length_of heap o) k) i)) (plus_zero at) (c zero (omega arith)) in
      let first = store_keeps image heap o at k y fine has here in
      let same : cell_types image (length_of heap o) k ≡ cell_types image (length_of (with_cell heap o at y) o) k = same_cell_types image heap (with_cell heap o at y) o o k has (first.1 o k has) (count heap o at y k fine has) in
      let rest = stored_fine (with_cell heap o at y) o k (suc at) ys first.0 (first.1 o k has) (λ j l. subst (λ (ts : Types). Conforms image (with_cell heap o at y) nobody (reg_at ys j) (type_at ts (suc at + j))) same (subst (λ (i : ℕ). Conforms image (with_cell heap o at y) nobody (reg_at ys j) (type_at (cell_types image (length_of heap o) k) i)) (plus_suc at j) (conforms_grown image heap (with_cell heap o at y) first.1 nobody _ _ (c (suc j) (omega (arith, l)))))) in
      (rest.0, λ p q e. rest.1 p q (first.1 p q e))
    where
      count : (heap : Heap) (o at : ℕ) (y : Value) (k : Kind) → HeapFine image heap → kind_of heap o ≡ Some k → length (cells_at heap o) ≡ length (cells_at (with_cell heap o at y) o)
      count heap zero at y k fine has = absurd (cc)
      count heap (suc o) at y k fine has = sym (ap length (get_or-set_same heap.cells o (slice_set (cells_at heap (suc o)) at y) [] (omega (arith, slice_get_within heap.kinds o k has, fine.count))) ∙ length-set (cells_at heap (suc o)) at y)

  pub static_stored_fine : (heap : Heap) (n : ℕ) (x : Field) (at : ℕ) (ys : List Value) → HeapFine image heap → field_at image n ≡ Some x → ((j : ℕ) → j < length ys → Conforms image heap nobody (reg_at ys j) (type_at (reg_types x.def.ty) (at + j))) → HeapFine image (static_stored heap n at ys) × KeepsKinds heap (static_stored heap n at ys)
  static_stored_fine heap n x at [] fine has c = (fine, λ p q e. e)
  static_stored_fine heap n x at (y ∷ ys) fine has c =
      let here : Conforms image heap nobody y (type_at (reg_types x.def.ty) at) = subst (λ (i : ℕ). Conforms image heap nobody y (type_at (reg_types x.def.ty) i)) (plus_zero at) (c zero (omega arith)) in
      let first = static_store_keeps image heap n at x y fine has here in
      let rest = static_stored_fine (with_static heap n at y) n x (suc at) ys first.0 has (λ j l. subst (λ (i : ℕ). Conforms image (with_static heap n at y) nobody (reg_at ys j) (type_at (reg_types x.def.ty) i)) (plus_suc at j) (conforms_grown image heap (with_static heap n at y) first.1 nobody _ _ (c (suc j) (omega (arith, l))))) in
      (rest.0, λ p q e. rest.1 p q (first.1 p q e))

-- the words of one field or element, by their places
pub words_at_is : (heap : Heap) (o p : ℕ) (t : Ty) → (if is_long t then reg_at (cells_at heap o) (p + 0) ∷ reg_at (cells_at heap o) (p + 1) ∷ [] else reg_at (cells_at heap o) (p + 0) ∷ []) ≡ words_at heap o p t
words_at_is heap o p t = ap (λ (q : ℕ). (if is_long t then cell_at heap o q ∷ cell_at heap o (p + 1) ∷ [] else cell_at heap o q ∷ [])) (plus_zero p) ∙ ap (λ (q : ℕ). (if is_long t then cell_at heap o p ∷ cell_at heap o q ∷ [] else cell_at heap o p ∷ [])) (one_at p)
  where
    one_at : (k : ℕ) → k + 1 ≡ suc k
    one_at k = omega arith
