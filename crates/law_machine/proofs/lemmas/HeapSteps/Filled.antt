-- The instructions that write arrays are fine.
use Rattle.std.proofs.Common.{◌≡◌, ◌⊎◌, inl, inr, ℕ, zero, suc, ◌*◌, ◌<◌, List, [], ◌∷◌, ◌++◌, length, true, false, Some, None, refl, sym, ap, ◌∙◌, subst}
use Rattle.std.specs.Prelude.{ℤ, nat_le}
use Rattle.std.proofs.lemmas.Bool.{and_parts, or_cases, leb-true}
use Rattle.dv_defs.specs.declared.names.Base.{Base}
use Rattle.dv_defs.specs.declared.names.Base.TheVariants as base
use Rattle.dv_defs.specs.declared.names.Ty.{Ty}
use Rattle.dv_defs.specs.Images.{Image}
use Rattle.dv_machine.specs.Value.{Value}
use Rattle.dv_machine.specs.Value as v
use Rattle.dv_defs.specs.declared.run.Named.TheVariants as named
use Rattle.dv_machine.specs.Kind as kind
use Rattle.dv_machine.specs.Pending as pending
use Rattle.dv_machine.specs.Frame.{Frame}
use Rattle.dv_machine.specs.Level.{Level}
use Rattle.dv_typing.specs.declared.typing.RegType.{RegType}
use Rattle.dv_typing.specs.declared.typing.RegType.TheVariants as ty
use Rattle.dv_typing.specs.declared.typing.PendingType.TheVariants as pend
use Rattle.dv_typing.specs.declared.typing.RegState.{RegState}
use Rattle.dv_defs.specs.Parts.{Call, Suffix}
use Rattle.dv_defs.specs.Types.{base_eq, component, is_array, is_base, is_class_base, is_long, is_reference, words_of}
use Rattle.dv_defs.specs.Pools.{Method}
use Rattle.dv_defs.specs.Op.{Code, ArrayPut, Fill, Filled, Invoke}
use Rattle.dv_typing.specs.Statics.{At, op_rules, is_of_suffix, is_filled_type}
use Rattle.dv_typing.specs.RegTypes.{Types, type_at, single_type}
use Rattle.dv_typing.specs.Demands.{goes_on, first, array, int, put_for, single_for, each_for, is_fill_type}
use Rattle.dv_machine.specs.Heap.{Heap, kind_of, newest, alloc_array, length_of}
use Rattle.dv_machine.specs.State.{Thread, Machine, reg_at, read_single, onward, gone, with_heap}
use Rattle.dv_machine.specs.Mem.{mem, on_object, on_index, component_of, stored, is_storable, array_put, filled, fill, read_each, filled_array, narrowed_all}
use Rattle.dv_machine.specs.Step.{here}
use Rattle.dv_machine.specs.Conforming.{Conforms, IsOf}
use Rattle.dv_machine.specs.WellTyped.{Typings, own_of, this_above, nobody, element_types, HeapFine}
use Rattle.law_machine.specs.Premises.{KeepsKinds, ThrowFine, DidFine, HoldsOf}
use Rattle.law_machine.specs.StepLaws.{IsAdded}
use Rattle.law_machine.specs.Reading.{Anything}
use Rattle.law_machine.proofs.lemmas.Common.Facts.{fits_of}
use Rattle.law_types.proofs.Facts.{zero_plus}
use Rattle.law_machine.proofs.lemmas.Growth.Kinds.{conforms_grown}
use Rattle.law_machine.proofs.lemmas.Heap.Added.{array_is_added}
use Rattle.law_machine.proofs.lemmas.HeapSteps.Left.{room_then, true_then, result_left}
use Rattle.law_machine.proofs.lemmas.HeapSteps.Plain.{demand_of, out_of, throws, array_of, stops}
use Rattle.law_machine.proofs.lemmas.HeapSteps.Cells.{stored_fine}
use Rattle.law_machine.proofs.lemmas.HeapSteps.Elements.{primitive_plain, primitive_short, reference_short, short_types, int_type, class_type, fill_plain, filled_conforms}
use Rattle.law_machine.proofs.lemmas.HeapSteps.Arrays.{IsKnown, known_array, index_then, component_is}
use Rattle.law_machine.proofs.lemmas.HeapSteps.Stores.{IsPut, put_holds, cells_left, short_left, long_left, storable}
use Rattle.law_machine.proofs.lemmas.Exceptions.Rises.{object_there}
use Rattle.law_machine.proofs.lemmas.Local.Stands.{Stands, read_then}
use Rattle.law_machine.proofs.lemmas.Readers.Plain.{next_holds, reads_int}
use Rattle.law_machine.proofs.lemmas.Readers.Words.{IsWord, AreWordsOf, words, single_holds}
use Rattle.law_machine.proofs.lemmas.Readers.Arrays.{tests_go_down}
use Rattle.law_types.proofs.Demanded.{first_none, only_rule}
use Rattle.law_flow.proofs.Statics.{KeepsRules}
use Rattle.dv_defs.specs.declared.faults.Rule.TheVariants as rule

module _ (image : Image) (T : Typings) (m : Machine) (t : ℕ) (thread : Thread) (own : Method) (f : Frame) (rest : List Level) (x : At) (s : RegState) (h : Stands image T m t thread own f rest x s) (code : Code) (rules : KeepsRules image code x.op) (apart : (c : Call) (ks : List ℕ) (g : Method) → x.op ≡ Invoke c ks g → ⊥) where
  -- ---- one element

  module _ (a b c : ℕ) where
    -- a number of one word
    narrow_store : (w : Suffix) (p : Base) (e : x.op ≡ ArrayPut w a b c) → is_class_base p ≡ false → base_eq p base.J ≡ false → (o k : ℕ) (u : Ty) (ys : List Value) → is_base p (component u) ≡ true → kind_of m.shared.heap (suc o) ≡ Some (kind.Array u) → k < length_of m.shared.heap (suc o) → (y : Value) × (ys ≡ y ∷ []) × Conforms image m.shared.heap nobody y ty.Int → is_storable (here image m t own f rest x.next) (suc o) w ys ≡ true → DidFine image T m t thread x (array_put (here image m t own f rest x.next) (suc o) w ys (k * words_of (component_of (here image m t own f rest x.next) (suc o))))
    narrow_store w p e q r o k u ys i j l n st = true_then image T m t thread x (is_storable (here image m t own f rest x.next) (suc o) w ys) named.ArrayStore _ (throws image T m t thread own f rest x s h code rules apart (ArrayPut w a b c) e refl) (λ z. subst (λ (zs : List Value). DidFine image T m t thread x (onward (here image m t own f rest x.next) (with_heap m.shared (stored m.shared.heap (suc o) (k * words_of (component_of (here image m t own f rest x.next) (suc o))) (narrowed_all (component_of (here image m t own f rest x.next) (suc o)) zs))) (gone f x.next f.regs))) (sym n.1) (short_left image T m t thread own f rest x s h code rules apart o u j (ap goes_on e) (out_of image T m t thread own f rest x s h code rules apart (ArrayPut w a b c) e) k n.0 l (primitive_short p (component u) r i) (subst (λ (z : RegType). Conforms image m.shared.heap nobody n.0 z) (sym (int_type (component u) (primitive_plain p (component u) q i))) n.2)))

    put_by : (w : Suffix) (e : x.op ≡ ArrayPut w a b c) (o k : ℕ) (ys : List Value) → IsKnown image T m t thread own f rest x s h code rules apart (is_of_suffix w) b (suc o) → k < length_of m.shared.heap (suc o) → IsPut image m.shared.heap w ys → DidFine image T m t thread x (array_put (here image m t own f rest x.next) (suc o) w ys (k * words_of (component_of (here image m t own f rest x.next) (suc o))))
    put_by Suffix.Int e o k ys i l n = narrow_store Suffix.Int base.I e refl refl o k i.2.type ys i.2.takes i.2.has_kind l n refl
    put_by Suffix.Boolean e o k ys i l n = narrow_store Suffix.Boolean base.Z e refl refl o k i.2.type ys i.2.takes i.2.has_kind l n refl
    put_by Suffix.Byte e o k ys i l n = narrow_store Suffix.Byte base.B e refl refl o k i.2.type ys i.2.takes i.2.has_kind l n refl
    put_by Suffix.Char e o k ys i l n = narrow_store Suffix.Char base.C e refl refl o k i.2.type ys i.2.takes i.2.has_kind l n refl
    put_by Suffix.Short e o k ys i l n = narrow_store Suffix.Short base.S e refl refl o k i.2.type ys i.2.takes i.2.has_kind l n refl
    put_by Suffix.Long e o k ys i l n = subst (λ (zs : List Value). DidFine image T m t thread x (array_put (here image m t own f rest x.next) (suc o) Suffix.Long zs (k * words_of (component_of (here image m t own f rest x.next) (suc o))))) (sym n.2) (long_left image T m t thread own f rest x s h code rules apart o i.2.type i.2.has_kind (ap goes_on e) (out_of image T m t thread own f rest x s h code rules apart (ArrayPut Suffix.Long a b c) e) k n.0 n.1 l i.2.takes)
    put_by Suffix.Object e o k ys i l n = subst (λ (zs : List Value). DidFine image T m t thread x (array_put (here image m t own f rest x.next) (suc o) Suffix.Object zs (k * words_of (component_of (here image m t own f rest x.next) (suc o))))) (sym n.1) (true_then image T m t thread x (is_storable (here image m t own f rest x.next) (suc o) Suffix.Object (n.0 ∷ [])) named.ArrayStore _ (throws image T m t thread own f rest x s h code rules apart (ArrayPut Suffix.Object a b c) e refl) (λ q. short_left image T m t thread own f rest x s h code rules apart o i.2.type i.2.has_kind (ap goes_on e) (out_of image T m t thread own f rest x s h code rules apart (ArrayPut Suffix.Object a b c) e) k n.0 l (reference_short (component i.2.type) i.2.takes) (subst (λ (z : RegType). Conforms image m.shared.heap nobody n.0 z) (sym (class_type (component i.2.type) i.2.takes)) (storable image T m t thread own f rest x s h code rules apart o i.2.type i.2.has_kind (ap goes_on e) (out_of image T m t thread own f rest x s h code rules apart (ArrayPut Suffix.Object a b c) e) n.0 i.2.takes n.2 q))))

    pub array_put_fine : (w : Suffix) → x.op ≡ ArrayPut w a b c → DidFine image T m t thread x (mem (here image m t own f rest x.next) (ArrayPut w a b c))
    array_put_fine w e =
        let d = first_none (array s.regs b (is_of_suffix w)) (first (int s.regs c) (put_for s.regs a w)) (demand_of image T m t thread own f rest x s h code rules apart (ArrayPut w a b c) e) in
        let g = first_none (int s.regs c) (put_for s.regs a w) d.1 in
        read_then image T m t thread x (IsKnown image T m t thread own f rest x s h code rules apart (is_of_suffix w) b) _ _ (known_array image T m t thread own f rest x s h code rules apart (is_of_suffix w) b ((tests_go_down image).suffix w) d.0)
        (λ p i. read_then image T m t thread x Anything _ _ (reads_int image m.shared.heap (own_of image (this_above image rest) own) f.regs s.regs c h.conform.good.regs g.0)
        (λ n q. read_then image T m t thread x (IsPut image m.shared.heap w) _ _ (put_holds image T m t thread own f rest x s h code rules apart w a g.1) (λ ys r. go p n ys i r)))
      where
        throwing : ThrowFine m t x
        throwing = throws image T m t thread own f rest x s h code rules apart (ArrayPut w a b c) e refl

        go : (p : ℕ) (n : ℤ) (ys : List Value) → IsKnown image T m t thread own f rest x s h code rules apart (is_of_suffix w) b p → IsPut image m.shared.heap w ys → DidFine image T m t thread x (on_object (λ o. on_index (here image m t own f rest x.next) o n (array_put (here image m t own f rest x.next) o w ys)) p)
        go zero n ys i r = throwing
        go (suc o) n ys i r = index_then image T m t thread own f rest x s h code rules apart (suc o) n (array_put (here image m t own f rest x.next) (suc o) w ys) throwing (λ k l. put_by w e o k ys i l r)

  -- ---- a payload

  pub fill_fine : (a n : ℕ) (ns : List ℤ) → x.op ≡ Fill a n ns → DidFine image T m t thread x (mem (here image m t own f rest x.next) (Fill a n ns))
  fill_fine a n ns e = read_then image T m t thread x (IsKnown image T m t thread own f rest x s h code rules apart (is_fill_type n) a) _ _ (known_array image T m t thread own f rest x s h code rules apart (is_fill_type n) a ((tests_go_down image).fill n) (demand_of image T m t thread own f rest x s h code rules apart (Fill a n ns) e)) go
    where
      throwing : ThrowFine m t x
      throwing = throws image T m t thread own f rest x s h code rules apart (Fill a n ns) e refl

      go : (o : ℕ) → IsKnown image T m t thread own f rest x s h code rules apart (is_fill_type n) a o → DidFine image T m t thread x (on_object (fill (here image m t own f rest x.next) ns) o)
      go zero i = throwing
      go (suc o) i = true_then image T m t thread x (nat_le (length ns) (length_of m.shared.heap (suc o))) named.ArrayIndex _ throwing (λ q. subst (λ (c : Ty). DidFine image T m t thread x (onward (here image m t own f rest x.next) (with_heap m.shared (stored m.shared.heap (suc o) 0 (filled c ns))) (gone f x.next f.regs))) (sym (component_is image T m t thread own f rest x s h code rules apart (suc o) i.2.type i.2.has_kind)) (cells_left image T m t thread own f rest x s h code rules apart o i.2.type i.2.has_kind (ap goes_on e) (out_of image T m t thread own f rest x s h code rules apart (Fill a n ns) e) (component i.2.type) 0 (filled (component i.2.type) ns) refl (λ j l. subst (λ (k : ℕ). Conforms image m.shared.heap nobody (reg_at (filled (component i.2.type) ns) j) (type_at (element_types (length_of m.shared.heap (suc o)) (component i.2.type)) k)) (zero_plus j) (filled_conforms image m.shared.heap (component i.2.type) (fill_plain n (component i.2.type) i.2.takes) ns (length_of m.shared.heap (suc o)) (leb-true (length ns) (length_of m.shared.heap (suc o)) q) j l))))

  -- ---- an array that is made full

  module _ (rs : List ℕ) (u : Ty) (e : x.op ≡ Filled rs u) where
    takes : is_filled_type u ≡ true
    takes = only_rule (is_filled_type u) (rule.S 16) (sym (ap (op_rules image code rules.0) e) ∙ rules.1)

    short : is_long (component u) ≡ false
    short = go (or_cases (is_base base.I (component u)) (is_reference (component u)) (and_parts (is_array u) _ takes).1)
      where
        go : (is_base base.I (component u) ≡ true) ⊎ (is_reference (component u) ≡ true) → is_long (component u) ≡ false
        go (inl i) = primitive_short base.I (component u) refl i
        go (inr r) = reference_short (component u) r

    each_holds : (ks : List ℕ) → each_for image s.regs ks (component u) ≡ None → HoldsOf (λ ys. AreWordsOf image m.shared.heap ys (element_types (length ks) (component u))) (read_each (here image m t own f rest x.next) (component u) ks)
    each_holds [] d = tt
    each_holds (k ∷ ks) d =
        let g = first_none (single_for image s.regs k (component u)) (each_for image s.regs ks (component u)) d in
        next_holds (λ y. IsWord image m.shared.heap y (single_type (component u))) (λ ys. AreWordsOf image m.shared.heap ys (element_types (suc (length ks)) (component u))) (read_single image m.shared.heap (component u) (reg_at f.regs k)) _ (single_holds image m.shared.heap h.may.accepted.order (own_of image (this_above image rest) own) (reg_at f.regs k) (type_at s.regs k) (component u) (is_reference (component u)) g.0 (h.conform.good.regs k))
        (λ y w. next_holds (λ ys. AreWordsOf image m.shared.heap ys (element_types (length ks) (component u))) (λ ys. AreWordsOf image m.shared.heap ys (element_types (suc (length ks)) (component u))) (read_each (here image m t own f rest x.next) (component u) ks) _ (each_holds ks g.1) (λ ys ws. subst (λ (ts : Types). AreWordsOf image m.shared.heap (y ∷ ys) (ts ++ element_types (length ks) (component u))) (sym (short_types (component u) short)) (w, ws)))

    made_left : (ys : List Value) (after : Heap) → AreWordsOf image m.shared.heap ys (element_types (length rs) (component u)) → IsAdded image m.shared.heap after (newest after) (kind.Array u) × (length_of after (newest after) ≡ length rs) → DidFine image T m t thread x (filled_array (here image m t own f rest x.next) ys after)
    made_left ys after w r = result_left image T m t thread own f rest x s h apart (ap goes_on e) (stored after (newest after) 0 ys) (λ o k q. st.1 o k (r.0.keeps o k q)) st.0 (pending.One (v.Ref (newest after))) (pend.One (ty.Class u)) (out_of image T m t thread own f rest x s h code rules apart (Filled rs u) e) (fits_of image (stored after (newest after) 0 ys) (newest after) u array) (object_there image (stored after (newest after) 0 ys) (newest after) array.object)
      where
        st : HeapFine image (stored after (newest after) 0 ys) × KeepsKinds after (stored after (newest after) 0 ys)
        st = stored_fine image after (newest after) (kind.Array u) 0 ys r.0.fine r.0.made (λ j l. subst (λ (k : ℕ). Conforms image after nobody (reg_at ys j) (type_at (element_types (length_of after (newest after)) (component u)) k)) (zero_plus j) (subst (λ (n : ℕ). Conforms image after nobody (reg_at ys j) (type_at (element_types n (component u)) j)) (sym r.1) (conforms_grown image m.shared.heap after r.0.keeps nobody (reg_at ys j) (type_at (element_types (length rs) (component u)) j) (((words image m.shared.heap ys (element_types (length rs) (component u)) w).good nobody).regs j))))

        array : IsOf image (stored after (newest after) 0 ys) (newest after) u
        array = array_of image T m t thread own f rest x s h code rules apart (stored after (newest after) 0 ys) (newest after) u (and_parts (is_array u) _ takes).0 (st.1 (newest after) (kind.Array u) r.0.made)

    pub filled_fine : DidFine image T m t thread x (mem (here image m t own f rest x.next) (Filled rs u))
    filled_fine = read_then image T m t thread x (λ ys. AreWordsOf image m.shared.heap ys (element_types (length rs) (component u))) _ _ (each_holds rs (demand_of image T m t thread own f rest x s h code rules apart (Filled rs u) e)) (λ ys w. room_then image T m t thread x (alloc_array m.shared.heap u (length rs)) (filled_array (here image m t own f rest x.next) ys) (stops image T m t thread own f rest x s h code rules apart (Filled rs u) e refl refl) (λ after q. made_left ys after w (array_is_added image m.shared.heap after u (length rs) h.may.typed.heap q)))
