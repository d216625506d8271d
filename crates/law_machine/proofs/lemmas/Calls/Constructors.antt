-- Calls of constructors.
use Rattle.std.proofs.Common.{◌≡◌, ◌⊎◌, inl, inr, ℕ, suc, List, ◌∷◌, Bool, true, false, Option, Some, None, refl, sym, ap, ◌∙◌, subst}
use Rattle.std.specs.Prelude.{nat_eq, if◌then◌else◌}
use Rattle.std.proofs.lemmas.List.Elements.{All-cons}
use Rattle.dv_defs.specs.Images.{Image}
use Rattle.dv_machine.specs.Value.{Value}
use Rattle.dv_machine.specs.Value as v
use Rattle.dv_defs.specs.declared.run.Named.TheVariants as named
use Rattle.dv_machine.specs.Frame.{Frame}
use Rattle.dv_machine.specs.Kind as kind
use Rattle.dv_machine.specs.Level.{Level}
use Rattle.dv_machine.specs.Level as level
use Rattle.dv_typing.specs.declared.typing.RegType.{RegType}
use Rattle.dv_typing.specs.declared.typing.RegType.TheVariants as ty
use Rattle.dv_typing.specs.declared.typing.RegState.{RegState}
use Rattle.dv_defs.specs.Parts.{Call}
use Rattle.dv_defs.specs.Names.{object_name}
use Rattle.dv_defs.specs.Types.{of_class}
use Rattle.dv_defs.specs.Pools.{Method, method_at, is_static, is_abstract, is_constructor, is_of_object, own_type, class_type, name_at, parent_at}
use Rattle.dv_defs.specs.Op.{Invoke}
use Rattle.dv_typing.specs.Statics.{At}
use Rattle.dv_typing.specs.RegTypes.{all_types, type_at}
use Rattle.dv_defs.specs.Order.{sub}
use Rattle.dv_typing.specs.Demands.{Demand, first, args_for, instance_call, receiver_for, ref_to, super_for, is_exactly, is_own_or_super, made_at}
use Rattle.dv_typing.specs.Transfer.{arg_types, begins_uninitialised}
use Rattle.dv_typing.specs.Flow.{is_exit}
use Rattle.dv_machine.specs.Heap.{Heap, kind_of}
use Rattle.dv_machine.specs.State.{Thread, Machine, Throws, reg_at, read_args, Here}
use Rattle.dv_machine.specs.Calls.{object_of, where_fresh, is_made_of, read_new, enter, enter_constructor, construct, call_constructor}
use Rattle.dv_machine.specs.Step.{here}
use Rattle.dv_machine.specs.Conforming.{Own, IsOf, IsThere, IsGood, Conforms, RefFine}
use Rattle.dv_machine.specs.WellTyped.{Typings, own_of, this_above, called_on}
use Rattle.dv_machine.specs.Accepted.{Accepted}
use Rattle.law_machine.specs.Premises.{DidFine, HoldsOf}
use Rattle.law_machine.specs.Reading.{AreWords, IsUnder, ReadsReceiver}
use Rattle.law_types.proofs.Demanded.{first_none, demanded}
use Rattle.std.proofs.lemmas.Bool.{eqb-true, or_cases, eq-eqb}
use Rattle.std.proofs.lemmas.Option.{same_Some, none-some}
use Rattle.law_types.proofs.Facts.{no}
use Rattle.law_machine.proofs.lemmas.Common.Facts.{fits_of}
use Rattle.law_machine.proofs.lemmas.Returns.Constructed.{receiver_demanded, not_static}
use Rattle.law_machine.proofs.lemmas.Returns.Built.{IsProperAt, receiver_proper, receiver_there, this_proper, exactly_is}
use Rattle.law_machine.proofs.lemmas.Readers.Words.{reads_arguments, cons_good, this_good}
use Rattle.law_machine.proofs.lemmas.Local.Still.{IsQuiet}
use Rattle.law_machine.proofs.lemmas.Local.Stands.{Stands, read_then}
use Rattle.law_types.proofs.Equal.{names_are}
use Rattle.law_machine.proofs.lemmas.Calls.Classes.{parent_sub}
use Rattle.law_machine.proofs.lemmas.Calls.Words.{constructor_types, instance_types, begins_by_class, all_plain}
use Rattle.law_machine.proofs.lemmas.Calls.Dispatched.{constructor_not_native, of_instance}
use Rattle.law_machine.proofs.lemmas.Calls.Pushed.{enter_fine}
use Rattle.law_machine.proofs.lemmas.Calls.Invoked.{receiver_is, quiet_at, throws, called_by, this_is, called_fine}
use Rattle.law_machine.proofs.lemmas.Calls.Instance.{invoke_demand, callee_there}
use Rattle.law_machine.proofs.lemmas.Common.Members.{class_of_method}

-- ---- the receiver

module _ (image : Image) (T : Typings) (a : Accepted image T) (heap : Heap) (own g : Method) (has_own : (n : ℕ) × (method_at image n ≡ Some own)) where
  -- the own class or its superclass
  own_under : is_own_or_super image own g.info.class.0 ≡ true → sub image (own_type image own) (own_type image g) ≡ true
  own_under e = by_side (or_cases (nat_eq own.info.class.0 g.info.class.0) (is_exactly (parent_at image own.info.class.0) g.info.class.0) e)
    where
      by_parent : (p : Option ℕ) → parent_at image own.info.class.0 ≡ p → is_exactly p g.info.class.0 ≡ true → sub image (own_type image own) (own_type image g) ≡ true
      by_parent None q e = no e
      by_parent (Some p) q e = subst (λ z. sub image (own_type image own) (class_type image z) ≡ true) (eqb-true p g.info.class.0 e) (parent_sub image T a own.info.class.0 p (class_of_method image has_own.0 own has_own.1) q)

      by_side : (nat_eq own.info.class.0 g.info.class.0 ≡ true) ⊎ (is_exactly (parent_at image own.info.class.0) g.info.class.0 ≡ true) → sub image (own_type image own) (own_type image g) ≡ true
      by_side (inl q) = subst (λ z. sub image (own_type image own) (class_type image z) ≡ true) (eqb-true own.info.class.0 g.info.class.0 q) (a.order.same (own_type image own))
      by_side (inr q) = by_parent (parent_at image own.info.class.0) refl q

  fresh_holds : (P : ℕ → Type 0) (b : Bool) (o : ℕ) → b ≡ true → P o → HoldsOf P (where_fresh b o)
  fresh_holds P true o e p = p
  fresh_holds P false o e p = no e

  -- a receiver that the verifier let pass is read
  pub new_holds : (this : Option ℕ) (x : Value) (t : RegType) → Conforms image heap (own_of image this own) x t → receiver_for image own g t ≡ None → HoldsOf (λ o. (object_of x ≡ Some o) × IsUnder image heap (own_type image g) o) (read_new image heap own g x)
  new_holds this (v.Uninit b o) (ty.Uninit d) c q =
      let site : made_at image own d ≡ Some c.1.class = subst (λ z. made_at image own z ≡ Some c.1.class) c.0 c.1.is_site in
      let class : c.1.class ≡ g.info.class.0 = exactly_is image T a heap (made_at image own d) c.1.class g.info.class.0 site (demanded _ _ q) in
      fresh_holds (λ p. (object_of (v.Uninit b o) ≡ Some p) × IsUnder image heap (own_type image g) p) (is_made_of (kind_of heap o) g.info.class.0) o
      (ap (λ k. is_made_of k g.info.class.0) c.1.has_kind ∙ eq-eqb c.1.class g.info.class.0 class)
      (refl, record { class = c.1.class; has_kind = c.1.has_kind; under = subst (λ z. sub image (class_type image c.1.class) (class_type image z) ≡ true) class (a.order.same (class_type image c.1.class)) })
  new_holds this (v.UninitThis o) ty.UninitThis c q =
      fresh_holds (λ p. (object_of (v.UninitThis o) ≡ Some p) × IsUnder image heap (own_type image g) p) (is_own_or_super image own g.info.class.0) o (demanded _ _ q)
      (refl, record { class = c.class; has_kind = c.has_kind; under = a.order.trans _ _ _ c.under (own_under (demanded _ _ q)) })
  new_holds this x (ty.Uninit d) c q = absurd c
  new_holds this x ty.UninitThis c q = absurd c
  new_holds this x t c q = absurd (cc)

pub reads_receiver : ReadsReceiver
reads_receiver image T heap this n own g xs ts k a there h d = new_holds image T a heap own g (n, there) this (reg_at xs k) (type_at ts k) (h k) d

-- ---- the call

module _ (image : Image) (T : Typings) (m : Machine) (t : ℕ) (thread : Thread) (own : Method) (f : Frame) (rest : List Level) (x : At) (s : RegState) (h : Stands image T m t thread own f rest x s) (c : Call) (k : ℕ) (js : List ℕ) (g : Method) (e : x.op ≡ Invoke c (k ∷ js) g) (constructor : is_constructor g ≡ true) where
  abbrev heap : Heap
  heap = m.shared.heap

  abbrev here_it : Here
  here_it = here image m t own f rest x.next

  abbrev value : Value
  value = reg_at f.regs k

  static : is_static g ≡ false
  static = not_static g constructor

  callee : method_at image g.id ≡ Some g
  callee = callee_there image T m t thread own f rest x s h c (k ∷ js) g e

  receiver_ok : receiver_for image own g (type_at s.regs k) ≡ None
  receiver_ok = receiver_demanded image own s c k js g constructor (invoke_demand image T m t thread own f rest x s h c (k ∷ js) g e)

  args_ok : args_for image s.regs g.def.proto.params js ≡ None
  args_ok =
      let d = invoke_demand image T m t thread own f rest x s h c (k ∷ js) g e in
      let i = subst (λ z. elim z as (λ w. Demand) [ true ↦ args_for image s.regs g.def.proto.params (k ∷ js) | false ↦ instance_call image own s.regs c (k ∷ js) g ] ≡ None) static d in
      (first_none (elim (is_constructor g) as (λ w. Demand) [ true ↦ receiver_for image own g (type_at s.regs k) | false ↦ first (ref_to image s.regs k (own_type image g)) (super_for image own s.regs k c) ]) (args_for image s.regs g.def.proto.params js) i).1

  below_proper : (o : ℕ) → this_above image rest ≡ Some o → IsProperAt image heap o
  below_proper = this_proper image T h.may.accepted heap t rest h.rest_fine

  module _ (o : ℕ) (holds : object_of value ≡ Some o) (under : IsUnder image heap (own_type image g) o) where
    -- a thread that waits holds an object that is initialised
    new_quiet : IsQuiet image m t
    new_quiet = quiet_at image T m t thread own f rest x s h c (k ∷ js) g e (λ p w. not_new (value) (suc p) (ap (reg_at f.regs) (same_Some k w.receiver (sym (receiver_is c k js g static) ∙ w.has_receiver)) ∙ w.holds) holds)
      where
        not_new : (y : Value) (p : ℕ) → y ≡ v.Ref p → object_of y ≡ Some o → ⊥
        not_new y p q r = none-some _ (ap object_of (sym q) ∙ r)

    on_it : called_on f (Some x) ≡ Some o
    on_it = called_by image T m t thread own f rest x s h c (k ∷ js) g e (Some o) (ap (λ z. (if z then object_of value else None)) constructor ∙ holds)

    the_this : this_above image (level.Code f ∷ rest) ≡ Some o
    the_this = this_is image T m t thread own f rest x s h c (k ∷ js) g e (Some o) on_it

    proper : IsProperAt image heap o
    proper = receiver_proper image T h.may.accepted heap (this_above image rest) own g.id g callee constructor below_proper value (type_at s.regs k) (h.conform.good.regs k) receiver_ok o holds

    there : IsThere image heap o
    there = receiver_there image T h.may.accepted heap (this_above image rest) own g.id g callee constructor below_proper value (type_at s.regs k) (h.conform.good.regs k) receiver_ok o holds

    abbrev own_new : Own
    own_new = own_of image (this_above image (level.Code f ∷ rest)) g

    this_conforms : Conforms image heap own_new (v.UninitThis o) ty.UninitThis
    this_conforms = record { is_own = the_this; class = under.class; has_kind = under.has_kind; under = under.under }

    -- Object's own constructor finds its receiver initialised
    object_is : is_of_object image g ≡ true → IsOf image heap o (own_type image g)
    object_is q = subst (λ z. IsOf image heap o (of_class z)) (sym (names_are (name_at image g.info.class.0) object_name q)) (record {
      object = record { kind = kind.Object (record { 0 = under.class }); has_kind = under.has_kind; proper = proper _ under.has_kind };
      fits = h.may.accepted.order.object_fits _ refl;
    })

    module _ (ys : List Value) (w : AreWords image heap ys (all_types g.def.proto.params)) (concrete : is_abstract g ≡ false) where
      enter_with : (y : Value) (p : Bool) → p ≡ begins_uninitialised image g → IsGood image heap own_new (y ∷ ys) (arg_types image g) → RefFine image heap y → DidFine image T m t thread x (enter here_it g (y ∷ ys) p)
      enter_with y p flag good r =
          let body = h.may.accepted.bodies.body g.id g callee concrete (constructor_not_native image g constructor) in
          enter_fine image T m t thread own f rest x s h g (y ∷ ys) p
          (record { there = callee; code = body.0; has_body = body.1; flag = flag; good = good; refs = All-cons (RefFine image heap) y ys r w.refs })
          (called_fine image T m t thread own f rest x s h c (k ∷ js) g e g refl refl (λ q. (o, on_it)))
          (of_instance image T h.may.accepted heap g static) new_quiet (throws image T m t thread own f rest x s h c (k ∷ js) g e new_quiet, ap is_exit e)

      enter_new : DidFine image T m t thread x (enter_constructor here_it g o ys)
      enter_new = by_class (is_of_object image g) refl
        where
          by_class : (b : Bool) → is_of_object image g ≡ b → DidFine image T m t thread x (if b then enter here_it g (v.Ref o ∷ ys) false else enter here_it g (v.UninitThis o ∷ ys) true)
          by_class true q =
              let flag = begins_by_class image g constructor true q in
              enter_with (v.Ref o) false (sym flag)
              (subst (IsGood image heap own_new (v.Ref o ∷ ys)) (sym (instance_types image g static flag)) (cons_good image heap own_new (v.Ref o) (ty.Class (own_type image g)) ys (all_types g.def.proto.params) (λ u. u) (fits_of image heap o (own_type image g) (object_is q)) (w.good own_new)))
              there
          by_class false q =
              let flag = begins_by_class image g constructor false q in
              enter_with (v.UninitThis o) true (sym flag)
              (subst (IsGood image heap own_new (v.UninitThis o ∷ ys)) (sym (constructor_types image g static flag)) (this_good image heap own_new (v.UninitThis o) ys (all_types g.def.proto.params) this_conforms (all_plain g.def.proto.params) (w.good own_new)))
              tt

    construct_fine : (ys : List Value) → AreWords image heap ys (all_types g.def.proto.params) → DidFine image T m t thread x (construct here_it g o ys)
    construct_fine ys w = by_test (is_abstract g) refl
      where
        by_test : (b : Bool) → is_abstract g ≡ b → DidFine image T m t thread x (if b then Throws named.AbstractMethod else enter_constructor here_it g o ys)
        by_test true q = throws image T m t thread own f rest x s h c (k ∷ js) g e new_quiet
        by_test false q = enter_new ys w q

  pub constructor_fine : DidFine image T m t thread x (call_constructor here_it g value js)
  constructor_fine =
      let own_it = own_of image (this_above image rest) own in
      read_then image T m t thread x (λ o. (object_of value ≡ Some o) × IsUnder image heap (own_type image g) o) (read_new image heap own g value) _
      (new_holds image T h.may.accepted heap own g (f.method.0, h.has_own) (this_above image rest) value (type_at s.regs k) (h.conform.good.regs k) receiver_ok)
      (λ o z. read_then image T m t thread x (λ ys. AreWords image heap ys (all_types g.def.proto.params)) (read_args image heap f.regs g.def.proto.params js) _
      (reads_arguments image heap own_it f.regs s.regs g.def.proto.params js h.may.accepted.order h.conform.good.regs args_ok)
      (λ ys w. construct_fine o z.0 z.1 ys w))
