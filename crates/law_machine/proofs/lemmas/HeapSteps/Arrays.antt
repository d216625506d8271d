-- Steps that read an array's elements are fine.
use Rattle.std.proofs.Common.{◌≡◌, inr, ℕ, zero, suc, ◌+◌, ◌*◌, ◌<◌, List, [], ◌∷◌, Bool, true, false, ◌&&◌, Option, Some, None, refl, sym, ap, ◌∙◌, subst, arith}
use Rattle.std.specs.Prelude.{ℤ, pos, negsuc, nat_lt, if◌then◌else◌}
use Rattle.std.proofs.lemmas.Bool.{ltb-true}
use Rattle.dv_defs.specs.declared.names.Base.{Base}
use Rattle.dv_defs.specs.declared.names.Base.TheVariants as base
use Rattle.dv_defs.specs.declared.names.Ty.{Ty}
use Rattle.dv_defs.specs.Images.{Image}
use Rattle.dv_machine.specs.Value.{Value}
use Rattle.dv_machine.specs.Value as v
use Rattle.dv_defs.specs.declared.run.Named.TheVariants as named
use Rattle.dv_machine.specs.Kind.{Kind}
use Rattle.dv_machine.specs.Kind as kind
use Rattle.dv_machine.specs.Frame.{Frame}
use Rattle.dv_machine.specs.Level.{Level}
use Rattle.dv_typing.specs.declared.typing.RegType.{RegType}
use Rattle.dv_typing.specs.declared.typing.RegType.TheVariants as ty
use Rattle.dv_typing.specs.declared.typing.RegState.{RegState}
use Rattle.dv_defs.specs.Parts.{Call, Suffix}
use Rattle.dv_defs.specs.Types.{base_eq, component, is_array, is_base, is_class_base, is_long, is_reference, words_of}
use Rattle.dv_defs.specs.Pools.{Method}
use Rattle.dv_defs.specs.Order.{instance}
use Rattle.dv_defs.specs.Op.{Code, ArrayGet, Invoke}
use Rattle.dv_typing.specs.Statics.{At, is_of_suffix}
use Rattle.dv_typing.specs.RegTypes.{Types, type_at, reg_types, single_type}
use Rattle.dv_typing.specs.Demands.{goes_on, array, int, is_array_of}
use Rattle.dv_typing.specs.Transfer.{out, going, write_type, write_long, write_for, after_get, object_element}
use Rattle.dv_machine.specs.Heap.{kind_of, cells_at, length_of}
use Rattle.dv_machine.specs.State.{Thread, Machine, Left, Did, Throws, reg_at, read_array, onward, put_words, type_of_kind}
use Rattle.dv_machine.specs.Mem.{mem, on_object, on_index, words_at, component_of, get_element}
use Rattle.dv_machine.specs.Step.{here}
use Rattle.dv_machine.specs.Conforming.{Conforms}
use Rattle.dv_machine.specs.WellTyped.{Typings, own_of, this_above, nobody}
use Rattle.law_machine.specs.Premises.{ThrowFine, DidFine, HoldsOf}
use Rattle.law_machine.specs.Reading.{Anything, IsArrayOf, IsArrayOrNull, GoesDown}
use Rattle.law_types.proofs.Facts.{no}
use Rattle.law_machine.proofs.lemmas.HeapSteps.Left.{put_left}
use Rattle.law_machine.proofs.lemmas.HeapSteps.Plain.{demand_of, out_of, throws}
use Rattle.law_machine.proofs.lemmas.HeapSteps.Cells.{cell_ref, words_at_is}
use Rattle.law_machine.proofs.lemmas.HeapSteps.Elements.{element_at, primitive_plain, primitive_short, reference_short, short_types, int_type, class_type}
use Rattle.law_machine.proofs.lemmas.HeapSteps.Fields.{conform_within, words_left}
use Rattle.law_machine.proofs.lemmas.Local.Stands.{Stands, read_then}
use Rattle.law_machine.proofs.lemmas.Readers.Plain.{reads_int, holds_more}
use Rattle.law_machine.proofs.lemmas.Readers.Arrays.{reads_array, tests_go_down}
use Rattle.law_types.proofs.Demanded.{first_none, demanded}
use Rattle.law_flow.proofs.Statics.{KeepsRules}
use Rattle.dv_defs.specs.declared.faults.Rule.TheVariants as rule

-- a type of one word is written as it is
pub short_write : (ts : Types) (a : ℕ) (c : Ty) → is_long c ≡ false → write_for ts a c ≡ write_type ts a (single_type c)
short_write ts a c e = ap (λ (b : Bool). elim b as (λ z. Types) [ true ↦ write_long ts a | false ↦ write_type ts a (single_type c) ]) e

pub long_write : (ts : Types) (a : ℕ) (c : Ty) → is_long c ≡ true → write_for ts a c ≡ write_long ts a
long_write ts a c e = ap (λ (b : Bool). elim b as (λ z. Types) [ true ↦ write_long ts a | false ↦ write_type ts a (single_type c) ]) e

module _ (image : Image) (T : Typings) (m : Machine) (t : ℕ) (thread : Thread) (own : Method) (f : Frame) (rest : List Level) (x : At) (s : RegState) (h : Stands image T m t thread own f rest x s) (code : Code) (rules : KeepsRules image code x.op) (apart : (c : Call) (ks : List ℕ) (g : Method) → x.op ≡ Invoke c ks g → ⊥) where
  -- null, or an array of the type that the verifier knows
  abbrev pub IsKnown : (Ty → Bool) → ℕ → ℕ → Type 0
  IsKnown good b zero = Unit {0}
  IsKnown good b (suc o) = (d : Ty) × (type_at s.regs b ≡ ty.Class d) × IsArrayOf image m.shared.heap good (type_at s.regs b) (suc o)

  pub known_array : (good : Ty → Bool) (b : ℕ) → GoesDown image good → array s.regs b good ≡ None → HoldsOf (IsKnown good b) (read_array good m.shared.heap (reg_at f.regs b))
  known_array good b down d = by_type (type_at s.regs b) refl
    where
      was_zero : (z : Value) → Conforms image m.shared.heap (own_of image (this_above image rest) own) z ty.Zero → HoldsOf (IsKnown good b) (read_array good m.shared.heap z)
      was_zero v.Zero c = tt
      was_zero z c = absurd c

      more : (c : Ty) → type_at s.regs b ≡ ty.Class c → (o : ℕ) → IsArrayOrNull image m.shared.heap good (type_at s.regs b) o → IsKnown good b o
      more c q zero i = tt
      more c q (suc o) i = (c, q, i)

      by_type : (u : RegType) → type_at s.regs b ≡ u → HoldsOf (IsKnown good b) (read_array good m.shared.heap (reg_at f.regs b))
      by_type (ty.Class c) q = holds_more (IsArrayOrNull image m.shared.heap good (type_at s.regs b)) (IsKnown good b) _ (reads_array image m.shared.heap (own_of image (this_above image rest) own) f.regs s.regs b good h.may.accepted.order down h.conform.good.regs d) (more c q)
      by_type ty.Zero q = was_zero (reg_at f.regs b) (subst (λ (u : RegType). Conforms image m.shared.heap (own_of image (this_above image rest) own) (reg_at f.regs b) u) q (h.conform.good.regs b))
      by_type u q = no (subst (λ (z : RegType). is_array_of good z ≡ true) q (demanded _ _ d))

  pub index_then : (o : ℕ) (n : ℤ) (go : ℕ → Did Left) → ThrowFine m t x → ((k : ℕ) → k < length_of m.shared.heap o → DidFine image T m t thread x (go (k * words_of (component_of (here image m t own f rest x.next) o)))) → DidFine image T m t thread x (on_index (here image m t own f rest x.next) o n go)
  index_then o (negsuc n) go w g = w
  index_then o (pos k) go w g = by_test (nat_lt k (length_of m.shared.heap o)) refl
    where
      by_test : (b : Bool) → nat_lt k (length_of m.shared.heap o) ≡ b → DidFine image T m t thread x (if b then go (k * words_of (component_of (here image m t own f rest x.next) o)) else Throws named.ArrayIndex)
      by_test true e = g k (ltb-true k (length_of m.shared.heap o) e)
      by_test false e = w

  pub component_is : (o : ℕ) (u : Ty) → kind_of m.shared.heap o ≡ Some (kind.Array u) → component_of (here image m t own f rest x.next) o ≡ component u
  component_is o u e = ap (λ (z : Option Kind). component (type_of_kind image z)) e

  -- the cells of an element
  pub element_conforms : (o : ℕ) (u : Ty) (k : ℕ) → kind_of m.shared.heap (suc o) ≡ Some (kind.Array u) → k < length_of m.shared.heap (suc o) → (j : ℕ) → j < words_of (component u) → Conforms image m.shared.heap nobody (reg_at (cells_at m.shared.heap (suc o)) (k * words_of (component u) + j)) (type_at (reg_types (component u)) j)
  element_conforms o u k e l j i = subst (λ (r : RegType). Conforms image m.shared.heap nobody (reg_at (cells_at m.shared.heap (suc o)) (k * words_of (component u) + j)) r) (element_at (component u) (length_of m.shared.heap (suc o)) k j l i) ((h.may.typed.heap.objects o (kind.Array u) e).each (k * words_of (component u) + j))

  module _ (o : ℕ) (u : Ty) (k : ℕ) (e : kind_of m.shared.heap (suc o) ≡ Some (kind.Array u)) (l : k < length_of m.shared.heap (suc o)) (a : ℕ) (on : goes_on x.op ≡ true) where
    element : ℕ → Value
    element j = reg_at (cells_at m.shared.heap (suc o)) (k * words_of (component u) + j)

    at_component : DidFine image T m t thread x (onward (here image m t own f rest x.next) m.shared (put_words f x.next a (words_at m.shared.heap (suc o) (k * words_of (component u)) (component u)))) → DidFine image T m t thread x (get_element (here image m t own f rest x.next) a (suc o) (k * words_of (component_of (here image m t own f rest x.next) (suc o))))
    at_component d = subst (λ (c : Ty). DidFine image T m t thread x (onward (here image m t own f rest x.next) m.shared (put_words f x.next a (words_at m.shared.heap (suc o) (k * words_of c) c)))) (sym (component_is (suc o) u e)) d

    -- numbers
    number_element : out image own f.at x.op s ≡ going s (write_for s.regs a (component u)) → DidFine image T m t thread x (get_element (here image m t own f rest x.next) a (suc o) (k * words_of (component_of (here image m t own f rest x.next) (suc o))))
    unfolding element
    number_element w = at_component (subst (λ (ys : List Value). DidFine image T m t thread x (onward (here image m t own f rest x.next) m.shared (put_words f x.next a ys))) (words_at_is m.shared.heap (suc o) (k * words_of (component u)) (component u)) (words_left image T m t thread own f rest x s h code rules apart a (component u) element on w (conform_within image m.shared.heap element (component u) (element_conforms o u k e l))))

    -- a reference fits each type of which the component is an instance
    class_up : (y : Value) (c d : Ty) → instance image c d ≡ true → Conforms image m.shared.heap nobody y (ty.Class c) → Conforms image m.shared.heap (own_of image (this_above image rest) own) y (ty.Class d)
    class_up v.Zero c d i w = tt
    class_up (v.Ref zero) c d i w = tt
    class_up (v.Ref (suc p)) c d i w = record { object = w.object; fits = h.may.accepted.order.fits_through _ c d w.fits i }
    class_up y c d i w = absurd w

    object_element_left : (d : Ty) → is_reference (component u) ≡ true → instance image (component u) d ≡ true → out image own f.at x.op s ≡ going s (write_type s.regs a (ty.Class d)) → DidFine image T m t thread x (get_element (here image m t own f rest x.next) a (suc o) (k * words_of (component_of (here image m t own f rest x.next) (suc o))))
    unfolding element
    object_element_left d r i w = at_component (subst (λ (ys : List Value). DidFine image T m t thread x (onward (here image m t own f rest x.next) m.shared (put_words f x.next a ys))) words (put_left image T m t thread own f rest x s h apart on m.shared.heap (λ p q z. z) h.may.typed.heap a (element 0) (ty.Class d) w (inr (λ z. z, class_up (element 0) (component u) d i conforms)) (cell_ref image m.shared.heap nobody (element 0) (ty.Class (component u)) tt conforms)))
      where
        short : is_long (component u) ≡ false
        short = reference_short (component u) r

        words : element 0 ∷ [] ≡ words_at m.shared.heap (suc o) (k * words_of (component u)) (component u)
        words = sym (ap (λ (b : Bool). (if b then element 0 ∷ element 1 ∷ [] else element 0 ∷ [])) short) ∙ words_at_is m.shared.heap (suc o) (k * words_of (component u)) (component u)

        one_word : 0 < words_of (component u)
        one_word = let q : words_of (component u) ≡ 1 = ap (λ (b : Bool). elim b as (λ z. ℕ) [ true ↦ 2 | false ↦ 1 ]) short in omega (arith, q)

        conforms : Conforms image m.shared.heap nobody (element 0) (ty.Class (component u))
        conforms = subst (λ (z : RegType). Conforms image m.shared.heap nobody (element 0) z) (class_type (component u) r) (subst (λ (ts : Types). Conforms image m.shared.heap nobody (element 0) (type_at ts 0)) (short_types (component u) short) (element_conforms o u k e l 0 one_word))

  -- ---- the instruction

  narrow_out : (a : ℕ) (c : Ty) → is_long c ≡ false → is_reference c ≡ false → going s (write_type s.regs a ty.Int) ≡ going s (write_for s.regs a c)
  narrow_out a c l r = ap (λ (u : RegType). going s (write_type s.regs a u)) (sym (int_type c r)) ∙ ap (going s) (sym (short_write s.regs a c l))

  -- numbers of one word
  narrow_get : (w : Suffix) (a b c : ℕ) (p : Base) → x.op ≡ ArrayGet w a b c → is_class_base p ≡ false → base_eq p base.J ≡ false → after_get s.regs a w (type_at s.regs b) ≡ write_type s.regs a ty.Int → (o k : ℕ) (u : Ty) → is_base p (component u) ≡ true → kind_of m.shared.heap (suc o) ≡ Some (kind.Array u) → k < length_of m.shared.heap (suc o) → DidFine image T m t thread x (get_element (here image m t own f rest x.next) a (suc o) (k * words_of (component_of (here image m t own f rest x.next) (suc o))))
  narrow_get w a b c p e q r g o k u i j l = number_element o u k j l a (ap goes_on e) (out_of image T m t thread own f rest x s h code rules apart (ArrayGet w a b c) e ∙ ap (going s) g ∙ narrow_out a (component u) (primitive_short p (component u) r i) (primitive_plain p (component u) q i))

  get_by : (w : Suffix) (a b c : ℕ) → x.op ≡ ArrayGet w a b c → array s.regs b (is_of_suffix w) ≡ None → (o k : ℕ) → IsKnown (is_of_suffix w) b (suc o) → k < length_of m.shared.heap (suc o) → DidFine image T m t thread x (get_element (here image m t own f rest x.next) a (suc o) (k * words_of (component_of (here image m t own f rest x.next) (suc o))))
  get_by Suffix.Int a b c e d o k i l = narrow_get Suffix.Int a b c base.I e refl refl refl o k i.2.type i.2.takes i.2.has_kind l
  get_by Suffix.Boolean a b c e d o k i l = narrow_get Suffix.Boolean a b c base.Z e refl refl refl o k i.2.type i.2.takes i.2.has_kind l
  get_by Suffix.Byte a b c e d o k i l = narrow_get Suffix.Byte a b c base.B e refl refl refl o k i.2.type i.2.takes i.2.has_kind l
  get_by Suffix.Char a b c e d o k i l = narrow_get Suffix.Char a b c base.C e refl refl refl o k i.2.type i.2.takes i.2.has_kind l
  get_by Suffix.Short a b c e d o k i l = narrow_get Suffix.Short a b c base.S e refl refl refl o k i.2.type i.2.takes i.2.has_kind l
  get_by Suffix.Long a b c e d o k i l = number_element o i.2.type k i.2.has_kind l a (ap goes_on e) (out_of image T m t thread own f rest x s h code rules apart (ArrayGet Suffix.Long a b c) e ∙ sym (ap (going s) (long_write s.regs a (component i.2.type) i.2.takes)))
  get_by Suffix.Object a b c e d o k i l = object_element_left o i.2.type k i.2.has_kind l a (ap goes_on e) (component i.0) i.2.takes (i.2.under i.0 i.1) (out_of image T m t thread own f rest x s h code rules apart (ArrayGet Suffix.Object a b c) e ∙ ap (λ (z : RegType). going s (write_type s.regs a (object_element z))) i.1 ∙ ap (λ (z : RegType). going s (write_type s.regs a z)) known)
    where
      tested : (is_array i.0 && is_reference (component i.0)) ≡ true
      tested = subst (λ (z : RegType). is_array_of is_reference z ≡ true) i.1 (demanded (is_array_of is_reference (type_at s.regs b)) (rule.V 10) d)

      known : object_element (ty.Class i.0) ≡ ty.Class (component i.0)
      known = ap (λ (q : Bool). elim q as (λ z. RegType) [ true ↦ ty.Class (component i.0) | false ↦ ty.Conflict ]) tested

  pub array_get : (w : Suffix) (a b c : ℕ) → x.op ≡ ArrayGet w a b c → DidFine image T m t thread x (mem (here image m t own f rest x.next) (ArrayGet w a b c))
  array_get w a b c e =
      let d = first_none (array s.regs b (is_of_suffix w)) (int s.regs c) (demand_of image T m t thread own f rest x s h code rules apart (ArrayGet w a b c) e) in
      read_then image T m t thread x (IsKnown (is_of_suffix w) b) _ _ (known_array (is_of_suffix w) b ((tests_go_down image).suffix w) d.0)
      (λ p i. read_then image T m t thread x Anything _ _ (reads_int image m.shared.heap (own_of image (this_above image rest) own) f.regs s.regs c h.conform.good.regs d.1) (λ n q. go p n i d.0))
    where
      throwing : ThrowFine m t x
      throwing = throws image T m t thread own f rest x s h code rules apart (ArrayGet w a b c) e refl

      go : (p : ℕ) (n : ℤ) → IsKnown (is_of_suffix w) b p → array s.regs b (is_of_suffix w) ≡ None → DidFine image T m t thread x (on_object (λ o. on_index (here image m t own f rest x.next) o n (get_element (here image m t own f rest x.next) a o)) p)
      go zero n i d = throwing
      go (suc o) n i d = index_then (suc o) n (get_element (here image m t own f rest x.next) a (suc o)) throwing (λ k l. get_by w a b c e d o k i l)
