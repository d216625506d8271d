-- The instructions of instance and static fields are fine.
use Rattle.std.proofs.Common.{◌≡◌, ℕ, zero, suc, List, [], Bool, true, false, Some, None, refl, sym, ap, ◌∙◌, subst}
use Rattle.std.specs.Prelude.{slice_index_or, Ok, Err, if◌then◌else◌}
use Rattle.std.proofs.lemmas.Bool.{and_parts, eqb-true}
use Rattle.dv_defs.specs.Images.{Image}
use Rattle.dv_machine.specs.Value.{Value}
use Rattle.dv_machine.specs.Value as v
use Rattle.dv_machine.specs.Why as why
use Rattle.dv_machine.specs.Kind as kind
use Rattle.dv_machine.specs.Frame.{Frame}
use Rattle.dv_machine.specs.Level.{Level}
use Rattle.dv_typing.specs.declared.typing.RegType.{RegType}
use Rattle.dv_typing.specs.declared.typing.RegType.TheVariants as ty
use Rattle.dv_typing.specs.declared.typing.RegState.{RegState}
use Rattle.dv_defs.specs.Parts.{Call, Suffix}
use Rattle.dv_defs.specs.Pools.{Method, Field, field_at, is_static_field, class_type}
use Rattle.dv_defs.specs.Order.{sub}
use Rattle.dv_defs.specs.Op.{Op, Code, FieldGet, FieldPut, StaticGet, StaticPut, Invoke, can_throw}
use Rattle.dv_typing.specs.Statics.{At, op_rules, fits_instance_field, fits_static_field, is_of_suffix}
use Rattle.dv_typing.specs.RegTypes.{type_at, reg_types}
use Rattle.dv_typing.specs.Demands.{goes_on, is_own_field, value_for, ref, ref_to, demand, is_assignable, put_receiver, is_ref}
use Rattle.dv_machine.specs.State.{Thread, Machine, reg_at, read_ref, onward, with_heap, gone}
use Rattle.dv_machine.specs.Mem.{mem, on_object, static_stored, narrowed_all, read_put_receiver, get_field, put_field}
use Rattle.dv_machine.specs.Step.{here}
use Rattle.dv_machine.specs.Conforming.{Fits, Conforms}
use Rattle.dv_machine.specs.WellTyped.{Typings, own_of, this_above, nobody}
use Rattle.law_machine.specs.Premises.{ThrowFine, DidFine, HoldsOf}
use Rattle.law_machine.specs.Reading.{AreWords}
use Rattle.law_types.proofs.Facts.{no, zero_plus}
use Rattle.law_machine.proofs.lemmas.Heap.Cells.{reg_cells}
use Rattle.law_machine.proofs.lemmas.HeapSteps.Left.{gone_left}
use Rattle.law_machine.proofs.lemmas.HeapSteps.Plain.{demand_of, out_of, throws}
use Rattle.law_machine.proofs.lemmas.HeapSteps.Places.{class_field}
use Rattle.law_machine.proofs.lemmas.HeapSteps.Cells.{narrowed_each, static_stored_fine}
use Rattle.law_machine.proofs.lemmas.HeapSteps.Fields.{words_left, IsReceiver, fits_receiver, placed, concrete, get_fine, put_fine}
use Rattle.law_machine.proofs.lemmas.Local.Stands.{Stands, read_then}
use Rattle.law_machine.proofs.lemmas.Readers.Plain.{reads_reference_to, holds_more}
use Rattle.law_machine.proofs.lemmas.Readers.Words.{reads_value}
use Rattle.law_machine.proofs.lemmas.Calls.Resolved.{IsNamed, is_named}
use Rattle.law_types.proofs.Demanded.{first_none, demanded, only_rule}
use Rattle.law_flow.proofs.Statics.{KeepsRules}
use Rattle.dv_defs.specs.declared.faults.Rule.TheVariants as rule

module _ (image : Image) (T : Typings) (m : Machine) (t : ℕ) (thread : Thread) (own : Method) (f : Frame) (rest : List Level) (x : At) (s : RegState) (h : Stands image T m t thread own f rest x s) (code : Code) (rules : KeepsRules image code x.op) (apart : (c : Call) (ks : List ℕ) (g : Method) → x.op ≡ Invoke c ks g → ⊥) where
  named : (op : Op) → x.op ≡ op → IsNamed image op
  named op e = subst (IsNamed image) e (is_named image f.method.0 f.at x h.has_at)

  throwing : (op : Op) → x.op ≡ op → can_throw op ≡ true → ThrowFine m t x
  throwing op e c = throws image T m t thread own f rest x s h code rules apart op e c

  pub field_get : (w : Suffix) (a b : ℕ) (y : Field) → x.op ≡ FieldGet w a b y → DidFine image T m t thread x (mem (here image m t own f rest x.next) (FieldGet w a b y))
  field_get w a b y e = read_then image T m t thread x (λ o. Fits image m.shared.heap o (class_type image y.info.class.0)) _ _ (reads_reference_to image m.shared.heap (own_of image (this_above image rest) own) f.regs s.regs b (class_type image y.info.class.0) h.may.accepted.order h.conform.good.regs (demand_of image T m t thread own f rest x s h code rules apart (FieldGet w a b y) e)) go
    where
      n : (n : ℕ) × (field_at image n ≡ Some y)
      n = named (FieldGet w a b y) e

      fits : fits_instance_field image w y ≡ true
      fits = only_rule (fits_instance_field image w y) (rule.S 13) (sym (ap (op_rules image code rules.0) e) ∙ rules.1)

      go : (o : ℕ) → Fits image m.shared.heap o (class_type image y.info.class.0) → DidFine image T m t thread x (on_object (get_field (here image m t own f rest x.next) a y) o)
      go zero i = throwing (FieldGet w a b y) e refl
      go (suc o) i = get_fine image T m t thread own f rest x s h code rules apart w y n.0 n.1 fits a (ap goes_on e) (out_of image T m t thread own f rest x s h code rules apart (FieldGet w a b y) e) o (fits_receiver image T m t thread own f rest x s h code rules apart w y n.0 n.1 fits (suc o) i)

  module _ (w : Suffix) (a b : ℕ) (y : Field) (e : x.op ≡ FieldPut w a b y) where
    its_field : (n : ℕ) × (field_at image n ≡ Some y)
    its_field = named (FieldPut w a b y) e

    its_fits : fits_instance_field image w y ≡ true
    its_fits = only_rule (fits_instance_field image w y) (rule.S 13) (sym (ap (op_rules image code rules.0) e) ∙ rules.1)

    Receiver : ℕ → Type 0
    Receiver o = IsReceiver image T m t thread own f rest x s h code rules apart w y its_field.0 its_field.1 its_fits o

    -- a reference to an object of the field's class
    read_receiver : ref_to image s.regs b (class_type image y.info.class.0) ≡ None → HoldsOf Receiver (read_ref image m.shared.heap (class_type image y.info.class.0) (reg_at f.regs b))
    unfolding Receiver
    read_receiver d = holds_more (λ o. Fits image m.shared.heap o (class_type image y.info.class.0)) Receiver _ (reads_reference_to image m.shared.heap (own_of image (this_above image rest) own) f.regs s.regs b (class_type image y.info.class.0) h.may.accepted.order h.conform.good.regs d) (fits_receiver image T m t thread own f rest x s h code rules apart w y its_field.0 its_field.1 its_fits)

    -- the frame's own receiver, which isn't initialised yet
    own_receiver : (o : ℕ) → is_own_field own y ≡ true → Conforms image m.shared.heap (own_of image (this_above image rest) own) (v.UninitThis o) ty.UninitThis → Receiver o
    unfolding Receiver
    own_receiver zero q c = tt
    own_receiver (suc o) q c =
        let same = eqb-true y.info.class.0 own.info.class.0 q in
        let under : sub image (class_type image c.class) (class_type image y.info.class.0) ≡ true = subst (λ (d : ℕ). sub image (class_type image c.class) (class_type image d) ≡ true) (sym same) c.under in
        (kind.Object (record { 0 = c.class }), c.has_kind, class_field image T h.may.accepted its_field.0 y its_field.1 (placed image T m t thread own f rest x s h code rules apart w y its_field.0 its_field.1 its_fits) (concrete image T m t thread own f rest x s h code rules apart w y its_field.0 its_field.1 its_fits) c.class (h.may.accepted.order.sub_instance _ _ under))

    not_ref : type_at s.regs b ≡ ty.Conflict → ref_to image s.regs b (class_type image y.info.class.0) ≡ None → ⊥
    not_ref q d = no (subst (λ (u : RegType). ◌≡◌ {A = Bool} (is_ref u) true) q (demanded _ _ (first_none (ref s.regs b) (demand (is_assignable image (type_at s.regs b) (class_type image y.info.class.0)) (rule.V 5)) d).0))

    receives : (z : Value) (u : RegType) → reg_at f.regs b ≡ z → type_at s.regs b ≡ u → Conforms image m.shared.heap (own_of image (this_above image rest) own) z u → put_receiver image own s.regs b y u ≡ None → HoldsOf Receiver (read_put_receiver (here image m t own f rest x.next) y z)
    receives (v.UninitThis o) ty.UninitThis p q c d = go (is_own_field own y) refl d
      where
        go : (k : Bool) → is_own_field own y ≡ k → demand k (rule.V 14) ≡ None → HoldsOf Receiver (if k then Ok o else Err why.Uninitialised)
        go true i d = own_receiver o i c
        go false i d = absurd (cc)
    receives (v.UninitThis o) ty.Conflict p q c d = absurd (not_ref q d)
    receives (v.UninitThis o) u p q c d = absurd c
    receives z ty.UninitThis p q c d = absurd c
    receives z u p q c d = subst (λ (k : Value). HoldsOf Receiver (read_ref image m.shared.heap (class_type image y.info.class.0) k)) p (read_receiver d)

    pub field_put : DidFine image T m t thread x (mem (here image m t own f rest x.next) (FieldPut w a b y))
    unfolding Receiver
    field_put =
        let d = first_none (put_receiver image own s.regs b y (type_at s.regs b)) (value_for image s.regs a y.def.ty) (demand_of image T m t thread own f rest x s h code rules apart (FieldPut w a b y) e) in
        read_then image T m t thread x Receiver _ _ (receives (reg_at f.regs b) (type_at s.regs b) refl refl (h.conform.good.regs b) d.0)
        (λ o i. read_then image T m t thread x (λ ys. AreWords image m.shared.heap ys (reg_types y.def.ty)) _ _ (reads_value image m.shared.heap (own_of image (this_above image rest) own) f.regs s.regs a y.def.ty h.may.accepted.order h.conform.good.regs d.1) (λ ys c. go o ys i c))
      where
        go : (o : ℕ) (ys : List Value) → Receiver o → AreWords image m.shared.heap ys (reg_types y.def.ty) → DidFine image T m t thread x (on_object (put_field (here image m t own f rest x.next) y ys) o)
        go zero ys i c = throwing (FieldPut w a b y) e refl
        go (suc o) ys i c = put_fine image T m t thread own f rest x s h code rules apart w y its_field.0 its_field.1 its_fits ys (ap goes_on e) (out_of image T m t thread own f rest x s h code rules apart (FieldPut w a b y) e) c o i

  -- ---- static fields

  own_id : (n : ℕ) (y : Field) → field_at image n ≡ Some y → field_at image y.id ≡ Some y
  own_id n y e = subst (λ (k : ℕ). field_at image k ≡ Some y) (sym (h.may.accepted.finds.fields n y e)) e

  pub static_get : (w : Suffix) (a : ℕ) (y : Field) → x.op ≡ StaticGet w a y → DidFine image T m t thread x (mem (here image m t own f rest x.next) (StaticGet w a y))
  static_get w a y e =
      let n = named (StaticGet w a y) e in
      let fits = only_rule (fits_static_field w y) (rule.S 13) (sym (ap (op_rules image code rules.0) e) ∙ rules.1) in
      let static = (and_parts (is_static_field y) (is_of_suffix w y.def.ty) fits).0 in
      words_left image T m t thread own f rest x s h code rules apart a y.def.ty (λ j. reg_at (slice_index_or m.shared.heap.statics y.id []) j) (ap goes_on e) (out_of image T m t thread own f rest x s h code rules apart (StaticGet w a y) e) (h.may.typed.heap.statics y.id y (own_id n.0 y n.1) static).each

  pub static_put : (w : Suffix) (a : ℕ) (y : Field) → x.op ≡ StaticPut w a y → DidFine image T m t thread x (mem (here image m t own f rest x.next) (StaticPut w a y))
  static_put w a y e = read_then image T m t thread x (λ ys. AreWords image m.shared.heap ys (reg_types y.def.ty)) _ _ (reads_value image m.shared.heap (own_of image (this_above image rest) own) f.regs s.regs a y.def.ty h.may.accepted.order h.conform.good.regs (demand_of image T m t thread own f rest x s h code rules apart (StaticPut w a y) e)) go
    where
      go : (ys : List Value) → AreWords image m.shared.heap ys (reg_types y.def.ty) → DidFine image T m t thread x (onward (here image m t own f rest x.next) (with_heap m.shared (static_stored m.shared.heap y.id 0 (narrowed_all y.def.ty ys))) (gone f x.next f.regs))
      go ys c =
          let n = named (StaticPut w a y) e in
          let narrow = narrowed_each image m.shared.heap y.def.ty ys (reg_types y.def.ty) (reg_cells y.def.ty) (c.good nobody).regs in
          let st = static_stored_fine image m.shared.heap y.id y 0 (narrowed_all y.def.ty ys) h.may.typed.heap (own_id n.0 y n.1) (λ j l. subst (λ (k : ℕ). Conforms image m.shared.heap nobody (reg_at (narrowed_all y.def.ty ys) j) (type_at (reg_types y.def.ty) k)) (zero_plus j) (narrow j)) in
          gone_left image T m t thread own f rest x s h apart (ap goes_on e) (static_stored m.shared.heap y.id 0 (narrowed_all y.def.ty ys)) st.1 st.0 (out_of image T m t thread own f rest x s h code rules apart (StaticPut w a y) e)
