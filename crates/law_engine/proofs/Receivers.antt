-- What holds up an instruction whose demands hold, with registers that conform: the words of these registers tell it.
use Rattle.std.proofs.Common.{◌≡◌, ℕ, ◌∷◌, List, Bool, true, false, Some, None, refl, sym, ◌∙◌, subst}
use Rattle.std.specs.Prelude.{if◌then◌else◌}
use Rattle.dv_defs.specs.declared.faults.Rule.TheVariants as rule
use Rattle.dv_machine.specs.Frame as tagged
use Rattle.dv_machine.specs.Value.{Value}
use Rattle.dv_machine.specs.Value as v
use Rattle.dv_typing.specs.declared.typing.RegState.{RegState}
use Rattle.dv_typing.specs.declared.typing.RegType.{RegType}
use Rattle.dv_typing.specs.declared.typing.RegType.TheVariants as ty
use Rattle.dv_typing.specs.Demands.{Demand, args_for, demand, demands, first, instance_call, invoke_for, is_assignable, is_ref, receiver_for, ref, ref_to, super_for}
use Rattle.dv_machine.specs.Heap.{Heap}
use Rattle.dv_defs.specs.Images.{Image}
use Rattle.dv_defs.specs.Op.{Op, Enter, Invoke}
use Rattle.dv_defs.specs.Parts.{Call}
use Rattle.dv_defs.specs.Pools.{Method, is_constructor, is_static, own_type}
use Rattle.dv_typing.specs.RegTypes.{type_at}
use Rattle.dv_machine.specs.Conforming.{Conforms, Own, RegsConform}
use Rattle.dv_machine.specs.Running as machine
use Rattle.dv_machine.specs.State.{Machine, reg_at}
use Rattle.law_types.proofs.Demanded.{demanded, first_none}
use Rattle.dv_words.specs.declared.state.Frame.{Frame}
use Rattle.dv_words.specs.Standing.{AreWords, IsWord, MachineStands}
use Rattle.dv_words.specs.State.{WordMachine}
use Rattle.dv_words.specs.Local.{reg_word}
use Rattle.dv_words.specs.Running as words
use Rattle.law_machine.proofs.lemmas.Returns.Constructed.{receiver_demanded}
use Rattle.law_words.proofs.NativeSteps.{IsReference}
use Rattle.law_words.proofs.Registers.{is_word_at}
use Rattle.law_engine.proofs.Waits.{call_is, construct_is, enter_is}

-- ---- what demands say of a receiver

reference_held : (image : Image) (heap : Heap) (own : Own) (x : Value) (t : RegType) → Conforms image heap own x t → is_ref t ≡ true → IsReference x
reference_held image heap own v.Zero t c e = tt
reference_held image heap own (v.Ref o) t c e = tt
reference_held image heap own x ty.Zero c e = absurd c
reference_held image heap own x (ty.Class d) c e = absurd c
reference_held image heap own x t c e = absurd (cc)

-- of a method that is neither static nor a constructor
reference_demanded : (image : Image) (m : Method) (s : RegState) (c : Call) (k : ℕ) (ks : List ℕ) (g : Method) → is_static g ≡ false → is_constructor g ≡ false → invoke_for image m s.regs c (k ∷ ks) g ≡ None → is_ref (type_at s.regs k) ≡ true
reference_demanded image m s c k ks g static sort d =
    let instance : instance_call image m s.regs c (k ∷ ks) g ≡ None = subst (λ z. elim z as (λ w. Demand) [ true ↦ args_for image s.regs g.def.proto.params (k ∷ ks) | false ↦ instance_call image m s.regs c (k ∷ ks) g ] ≡ None) static d in
    let both : first (first (ref_to image s.regs k (own_type image g)) (super_for image m s.regs k c)) (args_for image s.regs g.def.proto.params ks) ≡ None = subst (λ z. first (elim z as (λ w. Demand) [ true ↦ receiver_for image m g (type_at s.regs k) | false ↦ first (ref_to image s.regs k (own_type image g)) (super_for image m s.regs k c) ]) (args_for image s.regs g.def.proto.params ks) ≡ None) sort instance in
    let one : ref_to image s.regs k (own_type image g) ≡ None = (first_none _ _ (first_none _ _ both).0).0 in
    demanded _ (rule.V 4) (first_none (ref s.regs k) (demand (is_assignable image (type_at s.regs k) (own_type image g)) (rule.V 5)) one).0

-- ---- an instruction

module _ (image : Image) (w : WordMachine) (m : Machine) (stands : MachineStands w m) (t : ℕ) where
  module _ (own : Own) (method caller : Method) (s : Frame) (f : tagged.Frame) (state : RegState) (conform : RegsConform image m.shared.heap own f.regs state.regs) (are : AreWords s.regs f.regs) where
    word : (k : ℕ) → IsWord (reg_word s k) (reg_at f.regs k)
    word k = is_word_at s.regs f.regs k are

    reference : (k : ℕ) → is_ref (type_at state.regs k) ≡ true → IsReference (reg_at f.regs k)
    reference k e = reference_held image m.shared.heap own (reg_at f.regs k) (type_at state.regs k) (conform k) e

    module _ (c : Call) (k : ℕ) (ks : List ℕ) (g : Method) (holds : invoke_for image method state.regs c (k ∷ ks) g ≡ None) where
      -- what a constructor is called on isn't initialised
      fresh : (x : Value) (u : RegType) → Conforms image m.shared.heap own x u → receiver_for image method g u ≡ None → machine.blocked_call image m t caller c g x ≡ None
      fresh (v.Ref o) (ty.Uninit a) conforms d = absurd conforms
      fresh (v.Ref o) ty.UninitThis conforms d = absurd conforms
      fresh (v.Ref o) u conforms d = absurd (cc)
      fresh x u conforms d = refl

      by_sort : (b : Bool) → is_static g ≡ false → is_constructor g ≡ b → words.blocked_call image w t caller c g (reg_word s k) ≡ machine.blocked_call image m t caller c g (reg_at f.regs k)
      by_sort true instance sort =
          construct_is image w m stands t caller c g sort (reg_word s k) ∙
          sym (fresh (reg_at f.regs k) (type_at state.regs k) (conform k) (receiver_demanded image method state c k ks g sort holds))
      by_sort false instance sort =
          call_is image w m stands t caller c g (reg_word s k) (reg_at f.regs k) (reference k (reference_demanded image method state c k ks g instance sort holds)) (word k)

      receiver_is : (b : Bool) → is_static g ≡ b → words.blocked_receiver image w t caller s c g (if b then None else Some k) ≡ machine.blocked_receiver image m t caller f c g (if b then None else Some k)
      receiver_is true static = refl
      receiver_is false static = by_sort (is_constructor g) static refl

    pub op_is : (op : Op) → demands image method op state ≡ None → words.blocked_op image w t caller s op ≡ machine.blocked_op image m t caller f op
    op_is (Enter a) d = enter_is image w m stands t (reg_word s a) (reg_at f.regs a) (reference a (demanded (is_ref (type_at state.regs a)) (rule.V 4) d)) (word a)
    op_is (Invoke c (k ∷ ks) g) d = receiver_is c k ks g d (is_static g) refl
    op_is op d = refl
