-- The caller's frame after a return.
use Rattle.std.proofs.Common.{◌≡◌, ℕ, List, [], ◌∷◌, Bool, true, false, Option, Some, None, refl, sym, ap, ◌∙◌, subst}
use Rattle.std.proofs.lemmas.Bool.{and_parts, not-true}
use Rattle.std.specs.Prelude.{map, not, bytes_eq, if◌then◌else◌}
use Rattle.dv_defs.specs.Images.{Image}
use Rattle.dv_machine.specs.Value.{Value}
use Rattle.dv_machine.specs.Value as v
use Rattle.dv_machine.specs.Pending.{Pending}
use Rattle.dv_machine.specs.Frame.{Frame}
use Rattle.dv_typing.specs.declared.typing.RegType.{RegType}
use Rattle.dv_typing.specs.declared.typing.RegType.TheVariants as ty
use Rattle.dv_typing.specs.declared.typing.RegState.{RegState}
use Rattle.dv_defs.specs.Parts.{Call}
use Rattle.dv_defs.specs.Names.{init_name}
use Rattle.dv_defs.specs.Pools.{Method, is_static, is_constructor, own_type, class_type}
use Rattle.dv_defs.specs.Op.{Op, Invoke}
use Rattle.dv_typing.specs.RegTypes.{type_at}
use Rattle.dv_typing.specs.Demands.{demands, invoke_for, instance_call, receiver_for, ref_to, super_for, args_for, made_at, first, Demand}
use Rattle.dv_typing.specs.Transfer as after
use Rattle.dv_typing.specs.Transfer.{out, pending_of, after_constructor, after_invoke, class_or_conflict, replaced, first_of}
use Rattle.dv_machine.specs.Heap.{Heap}
use Rattle.dv_machine.specs.State.{reg_at, with_result}
use Rattle.dv_machine.specs.Calls.{receiver_of, constructed, returned, initialised, object_of, constructed_at}
use Rattle.dv_machine.specs.Conforming.{Own, Conforms, IsGood, ResultConforms, Conform}
use Rattle.dv_machine.specs.WellTyped.{own_of}
use Rattle.law_machine.specs.Returning.{IsBuilt, ReturnedConforms}
use Rattle.law_types.proofs.Facts.{no}
use Rattle.law_types.proofs.Demanded.{first_none}
use Rattle.law_machine.proofs.lemmas.Registers.Made.{made_good, own_good}

-- a constructor is an instance method
pub not_static : (g : Method) → is_constructor g ≡ true → is_static g ≡ false
not_static g e = not-true _ (and_parts (not (is_static g)) (bytes_eq g.def.name init_name) e).0

module _ (image : Image) (heap : Heap) (this : Option ℕ) (m : Method) (f : Frame) (s : RegState) (h : Conform image heap (own_of image this m) f s) (g : Method) (k next : ℕ) (p : Pending) (r : ResultConforms image heap (own_of image this m) p (pending_of g.def.proto.ret)) where
  abbrev own : Own
  own = own_of image this m

  made_registers : (a b o : ℕ) → reg_at f.regs k ≡ v.Uninit a o → type_at s.regs k ≡ ty.Uninit b → Conforms image heap own (v.Uninit a o) (ty.Uninit b) → IsBuilt image heap m (v.Uninit a o) → IsGood image heap own (map (initialised o) f.regs) (map (replaced b (class_or_conflict image (made_at image m b))) s.regs)
  made_registers a b o ex et c i =
      let site : made_at image m b ≡ Some c.1.class = subst (λ z. made_at image m z ≡ Some c.1.class) c.0 c.1.is_site in
      subst (λ z. IsGood image heap own (map (initialised o) f.regs) (map (replaced b (class_or_conflict image z)) s.regs)) (sym site)
      (made_good image heap own f.regs s.regs h.good b o (class_type image c.1.class) (i c.1.class c.1.is_site) k et (ap object_of ex))

  constructed_conforms : (x : Value) (t : RegType) → reg_at f.regs k ≡ x → type_at s.regs k ≡ t → Conforms image heap own x t → receiver_for image m g t ≡ None → IsBuilt image heap m x → Conform image heap own (constructed f next p x) (after.with_pending (after_constructor image m s t) (pending_of g.def.proto.ret))
  constructed_conforms (v.Uninit a o) (ty.Uninit b) ex et c d i = record { good = made_registers a b o ex et c i; result = r; caught = tt; this_pending = h.this_pending }
  constructed_conforms (v.UninitThis o) ty.UninitThis ex et c d i = record {
    good = own_good image heap own f.regs s.regs h.good o (own_type image m) i k et (ap object_of ex);
    result = r;
    caught = tt;
    this_pending = λ e. no e;
  }
  constructed_conforms x (ty.Uninit b) ex et c d i = absurd c
  constructed_conforms x ty.UninitThis ex et c d i = absurd c
  constructed_conforms x t ex et c d i = absurd (cc)

-- the demand of an invoke of a constructor asks for its receiver
pub receiver_demanded : (image : Image) (m : Method) (s : RegState) (c : Call) (k : ℕ) (ks : List ℕ) (g : Method) → is_constructor g ≡ true → invoke_for image m s.regs c (k ∷ ks) g ≡ None → receiver_for image m g (type_at s.regs k) ≡ None
receiver_demanded image m s c k ks g e d =
    let instance : instance_call image m s.regs c (k ∷ ks) g ≡ None = subst (λ z. elim z as (λ w. Demand) [ true ↦ args_for image s.regs g.def.proto.params (k ∷ ks) | false ↦ instance_call image m s.regs c (k ∷ ks) g ] ≡ None) (not_static g e) d in
    let both : first (receiver_for image m g (type_at s.regs k)) (args_for image s.regs g.def.proto.params ks) ≡ None = subst (λ z. first (elim z as (λ w. Demand) [ true ↦ receiver_for image m g (type_at s.regs k) | false ↦ first (ref_to image s.regs k (own_type image g)) (super_for image m s.regs k c) ]) (args_for image s.regs g.def.proto.params ks) ≡ None) e instance in
    (first_none _ _ both).0

-- without a receiver there is no demand that holds
pub no_receiver : (image : Image) (m : Method) (s : RegState) (c : Call) (g : Method) → is_constructor g ≡ true → invoke_for image m s.regs c [] g ≡ None → ⊥
no_receiver image m s c g e d =
    let instance : instance_call image m s.regs c [] g ≡ None = subst (λ z. elim z as (λ w. Demand) [ true ↦ args_for image s.regs g.def.proto.params [] | false ↦ instance_call image m s.regs c [] g ] ≡ None) (not_static g e) d in
    absurd (cc)

module _ (image : Image) (heap : Heap) (this : Option ℕ) (m : Method) (f : Frame) (s : RegState) (h : Conform image heap (own_of image this m) f s) (p : Pending) (next : ℕ) where
  back_at : (c : Call) (ks : List ℕ) (g : Method) (b : Bool) → is_constructor g ≡ b → invoke_for image m s.regs c ks g ≡ None → ResultConforms image heap (own_of image this m) p (pending_of g.def.proto.ret) → (b ≡ true → (k : ℕ) → receiver_of (Invoke c ks g) ≡ Some k → IsBuilt image heap m (reg_at f.regs k)) → Conform image heap (own_of image this m) (returned b f (record { op = Invoke c ks g; next = next }) p) (after_invoke image m s ks g)
  back_at c ks g false e d r i = subst (λ z. Conform image heap (own_of image this m) (with_result f next p) (elim z as (λ w. RegState) [ true ↦ after.with_pending (after_constructor image m s (type_at s.regs (first_of ks))) (pending_of g.def.proto.ret) | false ↦ after.with_pending s (pending_of g.def.proto.ret) ])) (sym e) (record { good = h.good; result = r; caught = tt; this_pending = h.this_pending })
  back_at c [] g true e d r i = absurd (no_receiver image m s c g e d)
  back_at c (k ∷ ks) g true e d r i =
      let there : receiver_of (Invoke c (k ∷ ks) g) ≡ Some k = ap (λ z. (if z then None else Some k)) (not_static g e) in
      let known : Conform image heap (own_of image this m) (constructed f next p (reg_at f.regs k)) (after.with_pending (after_constructor image m s (type_at s.regs k)) (pending_of g.def.proto.ret)) = constructed_conforms image heap this m f s h g k next p r _ _ refl refl (h.good.regs k) (receiver_demanded image m s c k ks g e d) (i refl k there) in
      let stated = subst (λ z. Conform image heap (own_of image this m) (constructed f next p (reg_at f.regs k)) (elim z as (λ w. RegState) [ true ↦ after.with_pending (after_constructor image m s (type_at s.regs k)) (pending_of g.def.proto.ret) | false ↦ after.with_pending s (pending_of g.def.proto.ret) ])) (sym e) known in
      subst (λ z. Conform image heap (own_of image this m) (constructed_at f next p z) (after_invoke image m s (k ∷ ks) g)) (sym there) stated

pub returned_conforms : ReturnedConforms
returned_conforms image heap this m f s x p b = at_op x.op b.is_invoke b.demand b.built
  where
    at_op : (op : Op) → op ≡ Invoke b.call b.args b.callee → demands image m op s ≡ None → (is_constructor b.callee ≡ true → (k : ℕ) → receiver_of op ≡ Some k → IsBuilt image heap m (reg_at f.regs k)) → Conform image heap (own_of image this m) (returned (is_constructor b.callee) f (record { op = op; next = x.next }) p) (out image m f.at op s)
    at_op op e d i = subst (λ z. Conform image heap (own_of image this m) (returned (is_constructor b.callee) f (record { op = z; next = x.next }) p) (out image m f.at z s)) (sym e)
        (back_at image heap this m f s b.conform p x.next b.call b.args b.callee (is_constructor b.callee) refl (subst (λ z. demands image m z s ≡ None) e d) b.result (λ y k r. i y k (ap receiver_of e ∙ r)))
