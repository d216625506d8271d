-- Steps that read and write fields are fine.
use Rattle.std.proofs.Common.{◌≡◌, ◌⊎◌, inl, inr, ℕ, zero, suc, ◌+◌, ◌<◌, ◌≤◌, List, [], ◌∷◌, length, Bool, true, false, Some, sym, ◌∙◌, subst, arith}
use Rattle.std.specs.Prelude.{if◌then◌else◌}
use Rattle.std.proofs.lemmas.Bool.{and_parts, not-true, cases_lt}
use Rattle.std.proofs.lemmas.List.{get_or_past}
use Rattle.dv_defs.specs.declared.names.Ty.{Ty}
use Rattle.dv_defs.specs.Images.{Image}
use Rattle.dv_machine.specs.Value.{Value}
use Rattle.dv_machine.specs.Value as v
use Rattle.dv_machine.specs.Kind.{Kind}
use Rattle.dv_machine.specs.Frame.{Frame}
use Rattle.dv_machine.specs.Level.{Level}
use Rattle.dv_typing.specs.declared.typing.RegType.{RegType}
use Rattle.dv_typing.specs.declared.typing.RegType.TheVariants as ty
use Rattle.dv_typing.specs.declared.typing.RegState.{RegState}
use Rattle.dv_defs.specs.Parts.{Call, Suffix}
use Rattle.dv_defs.specs.Types.{is_long, words_of}
use Rattle.dv_defs.specs.Pools.{Method, Field, field_at, is_static_field, is_interface, class_type}
use Rattle.dv_defs.specs.Op.{Code, Invoke}
use Rattle.dv_typing.specs.Statics.{At, fits_instance_field}
use Rattle.dv_typing.specs.RegTypes.{Types, type_at, reg_types, single_type}
use Rattle.dv_typing.specs.Demands.{goes_on}
use Rattle.dv_typing.specs.Transfer.{out, going, write_type, write_long, write_for}
use Rattle.dv_machine.specs.Heap.{Heap, kind_of, cells_at, length_of}
use Rattle.dv_machine.specs.State.{Thread, Machine, reg_at, onward, put_words}
use Rattle.dv_machine.specs.Mem.{stored, narrowed_all, get_field, put_field}
use Rattle.dv_machine.specs.Step.{here}
use Rattle.dv_machine.specs.Conforming.{Fits, Conforms}
use Rattle.dv_machine.specs.WellTyped.{Typings, own_of, this_above, nobody, cell_types}
use Rattle.law_machine.specs.Premises.{DidFine}
use Rattle.law_machine.specs.Reading.{AreWords}
use Rattle.law_flow.proofs.Statics.{KeepsRules}
use Rattle.law_machine.proofs.lemmas.Heap.Cells.{reg_cells, reg_count}
use Rattle.law_machine.proofs.lemmas.HeapSteps.Left.{put_left, put_long_left, gone_left}
use Rattle.law_machine.proofs.lemmas.HeapSteps.Places.{HasField, object_field, field_place}
use Rattle.law_machine.proofs.lemmas.HeapSteps.Cells.{cell_any, cell_ref, cell_plain, single_cell, narrowed_count, narrowed_each, stored_fine, words_at_is}
use Rattle.law_machine.proofs.lemmas.Local.Stands.{Stands}

-- words that conform by place
pub conform_within : (image : Image) (heap : Heap) (y : ℕ → Value) (t : Ty) → ((j : ℕ) → j < words_of t → Conforms image heap nobody (y j) (type_at (reg_types t) j)) → (j : ℕ) → Conforms image heap nobody (y j) (type_at (reg_types t) j)
conform_within image heap y t c j = go (cases_lt j (words_of t))
  where
    go : (j < words_of t) ⊎ (words_of t ≤ j) → Conforms image heap nobody (y j) (type_at (reg_types t) j)
    go (inl l) = c j l
    go (inr g) = subst (λ (u : RegType). Conforms image heap nobody (y j) u) (sym (get_or_past (reg_types t) j ty.Conflict (omega (arith, g, reg_count t)))) tt

module _ (image : Image) (T : Typings) (m : Machine) (t : ℕ) (thread : Thread) (own : Method) (f : Frame) (rest : List Level) (x : At) (s : RegState) (h : Stands image T m t thread own f rest x s) (code : Code) (rules : KeepsRules image code x.op) (apart : (c : Call) (ks : List ℕ) (g : Method) → x.op ≡ Invoke c ks g → ⊥) where
  -- registers take the words of a cell or two
  long_words : (a : ℕ) (y z : Value) → goes_on x.op ≡ true → out image own f.at x.op s ≡ going s (write_long s.regs a) → Conforms image m.shared.heap nobody y ty.LongLo → Conforms image m.shared.heap nobody z ty.LongHi → DidFine image T m t thread x (onward (here image m t own f rest x.next) m.shared (put_words f x.next a (y ∷ z ∷ [])))
  long_words a (v.Lo lo) (v.Hi hi) on o c d = put_long_left image T m t thread own f rest x s h apart on m.shared.heap (λ p k e. e) h.may.typed.heap a lo hi o
  long_words a (v.Lo lo) z on o c d = absurd d
  long_words a y z on o c d = absurd c

  by_width : (b : Bool) (a : ℕ) (u : Ty) (y z : Value) → goes_on x.op ≡ true → out image own f.at x.op s ≡ going s (elim b as (λ w. Types) [ true ↦ write_long s.regs a | false ↦ write_type s.regs a (single_type u) ]) → Conforms image m.shared.heap nobody y (type_at (elim b as (λ w. Types) [ true ↦ ty.LongLo ∷ ty.LongHi ∷ [] | false ↦ single_type u ∷ [] ]) 0) → Conforms image m.shared.heap nobody z (type_at (elim b as (λ w. Types) [ true ↦ ty.LongLo ∷ ty.LongHi ∷ [] | false ↦ single_type u ∷ [] ]) 1) → DidFine image T m t thread x (onward (here image m t own f rest x.next) m.shared (put_words f x.next a (if b then y ∷ z ∷ [] else y ∷ [])))
  by_width true a u y z on o c d = long_words a y z on o c d
  by_width false a u y z on o c d = put_left image T m t thread own f rest x s h apart on m.shared.heap (λ p k e. e) h.may.typed.heap a y (single_type u) o (inr (cell_plain (single_type u) (single_cell u), cell_any image m.shared.heap nobody (own_of image (this_above image rest) own) y (single_type u) (single_cell u) c)) (cell_ref image m.shared.heap nobody y (single_type u) (single_cell u) c)

  pub words_left : (a : ℕ) (u : Ty) (y : ℕ → Value) → goes_on x.op ≡ true → out image own f.at x.op s ≡ going s (write_for s.regs a u) → ((j : ℕ) → Conforms image m.shared.heap nobody (y j) (type_at (reg_types u) j)) → DidFine image T m t thread x (onward (here image m t own f rest x.next) m.shared (put_words f x.next a (if is_long u then y 0 ∷ y 1 ∷ [] else y 0 ∷ [])))
  words_left a u y on o c = by_width (is_long u) a u (y 0) (y 1) on o (c 0) (c 1)

  -- ---- instance fields

  module _ (w : Suffix) (x' : Field) (n : ℕ) (has : field_at image n ≡ Some x') (fits : fits_instance_field image w x' ≡ true) where
    pub placed : is_static_field x' ≡ false
    placed = not-true (is_static_field x') (and_parts _ _ (and_parts _ _ fits).0).0

    pub concrete : is_interface image x'.info.class.0 ≡ false
    concrete = not-true (is_interface image x'.info.class.0) (and_parts _ _ fits).1

    -- an object, if it isn't null, that has the field
    abbrev pub IsReceiver : ℕ → Type 0
    IsReceiver zero = Unit {0}
    IsReceiver (suc o) = (k : Kind) × (kind_of m.shared.heap (suc o) ≡ Some k) × HasField image T h.may.accepted n x' has placed concrete k

    pub fits_receiver : (o : ℕ) → Fits image m.shared.heap o (class_type image x'.info.class.0) → IsReceiver o
    fits_receiver zero i = tt
    fits_receiver (suc o) i = (i.object.kind, i.object.has_kind, object_field image T h.may.accepted n x' has placed concrete i.object.kind i.object.proper i.fits)

    place_conforms : (o : ℕ) (k : Kind) (y : Value) (i : HasField image T h.may.accepted n x' has placed concrete k) (j : ℕ) → j < words_of x'.def.ty → Conforms image m.shared.heap nobody y (type_at (reg_types x'.def.ty) j) → Conforms image m.shared.heap nobody y (type_at (cell_types image (length_of m.shared.heap o) k) (x'.info.slot + j))
    place_conforms o k y i j l c = subst (λ (q : Kind). Conforms image m.shared.heap nobody y (type_at (cell_types image (length_of m.shared.heap o) q) (x'.info.slot + j))) (sym i.is_object) (subst (λ (u : RegType). Conforms image m.shared.heap nobody y u) (sym (field_place image T h.may.accepted n x' has placed concrete k i j l)) c)

    cell_conforms : (o : ℕ) (k : Kind) → kind_of m.shared.heap (suc o) ≡ Some k → (i : HasField image T h.may.accepted n x' has placed concrete k) → (j : ℕ) → j < words_of x'.def.ty → Conforms image m.shared.heap nobody (reg_at (cells_at m.shared.heap (suc o)) (x'.info.slot + j)) (type_at (reg_types x'.def.ty) j)
    cell_conforms o k e i j l =
        let c = (h.may.typed.heap.objects o k e).each (x'.info.slot + j) in
        let d = subst (λ (q : Kind). Conforms image m.shared.heap nobody (reg_at (cells_at m.shared.heap (suc o)) (x'.info.slot + j)) (type_at (cell_types image (length_of m.shared.heap (suc o)) q) (x'.info.slot + j))) i.is_object c in
        subst (λ (u : RegType). Conforms image m.shared.heap nobody (reg_at (cells_at m.shared.heap (suc o)) (x'.info.slot + j)) u) (field_place image T h.may.accepted n x' has placed concrete k i j l) d

    pub get_fine : (a : ℕ) → goes_on x.op ≡ true → out image own f.at x.op s ≡ going s (write_for s.regs a x'.def.ty) → (o : ℕ) → IsReceiver (suc o) → DidFine image T m t thread x (get_field (here image m t own f rest x.next) a x' (suc o))
    get_fine a on e o i = subst (λ (ys : List Value). DidFine image T m t thread x (onward (here image m t own f rest x.next) m.shared (put_words f x.next a ys))) (words_at_is m.shared.heap (suc o) x'.info.slot x'.def.ty) (words_left a x'.def.ty (λ j. reg_at (cells_at m.shared.heap (suc o)) (x'.info.slot + j)) on e (conform_within image m.shared.heap (λ j. reg_at (cells_at m.shared.heap (suc o)) (x'.info.slot + j)) x'.def.ty (cell_conforms o i.0 i.1 i.2)))

    pub put_fine : (ys : List Value) → goes_on x.op ≡ true → out image own f.at x.op s ≡ going s s.regs → AreWords image m.shared.heap ys (reg_types x'.def.ty) → (o : ℕ) → IsReceiver (suc o) → DidFine image T m t thread x (put_field (here image m t own f rest x.next) x' ys (suc o))
    put_fine ys on e c o i =
        let good = c.good nobody in
        let narrow = narrowed_each image m.shared.heap x'.def.ty ys (reg_types x'.def.ty) (reg_cells x'.def.ty) good.regs in
        let count : length (narrowed_all x'.def.ty ys) ≡ words_of x'.def.ty = narrowed_count x'.def.ty ys ∙ good.count ∙ reg_count x'.def.ty in
        let st = stored_fine image m.shared.heap (suc o) i.0 x'.info.slot (narrowed_all x'.def.ty ys) h.may.typed.heap i.1 (λ j l. place_conforms (suc o) i.0 (reg_at (narrowed_all x'.def.ty ys) j) i.2 j (omega (arith, l, count)) (narrow j)) in
        gone_left image T m t thread own f rest x s h apart on (stored m.shared.heap (suc o) x'.info.slot (narrowed_all x'.def.ty ys)) st.1 st.0 e
