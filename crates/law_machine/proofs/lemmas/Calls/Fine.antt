-- Invokes are fine where the natives are.
use Rattle.std.proofs.Common.{◌≡◌, ℕ, List, [], ◌∷◌, Bool, true, false, None, refl, sym, subst}
use Rattle.dv_defs.specs.Images.{Image}
use Rattle.dv_machine.specs.Frame.{Frame}
use Rattle.dv_machine.specs.Level.{Level}
use Rattle.dv_typing.specs.declared.typing.RegState.{RegState}
use Rattle.dv_defs.specs.Parts.{Call}
use Rattle.dv_defs.specs.Pools.{Method, is_static, is_constructor}
use Rattle.dv_defs.specs.Op.{Invoke}
use Rattle.dv_typing.specs.Statics.{At}
use Rattle.dv_typing.specs.Demands.{Demand, args_for, instance_call, invoke_for}
use Rattle.dv_machine.specs.State.{Thread, Machine, Left, Did, reading, reg_at, read_args, Here}
use Rattle.dv_machine.specs.Calls.{unless_abstract, landed, call_constructor, call_instance, with_receiver, invoke}
use Rattle.dv_machine.specs.Natives.{native_step}
use Rattle.dv_machine.specs.Step.{here}
use Rattle.dv_machine.specs.WellTyped.{Typings}
use Rattle.law_machine.specs.Premises.{DidFine}
use Rattle.law_machine.proofs.lemmas.Local.Stands.{Stands}
use Rattle.law_machine.proofs.lemmas.Calls.Invoked.{NativesDo}
use Rattle.law_machine.proofs.lemmas.Calls.Instance.{invoke_demand, static_fine, instance_fine}
use Rattle.law_machine.proofs.lemmas.Calls.Constructors.{constructor_fine}

module _ (image : Image) (T : Typings) (m : Machine) (t : ℕ) (thread : Thread) (own : Method) (f : Frame) (rest : List Level) (x : At) (s : RegState) (h : Stands image T m t thread own f rest x s) where
  abbrev here_it : Here
  here_it = here image m t own f rest x.next

  -- an instance method has a receiver
  no_words : (c : Call) (g : Method) → is_static g ≡ false → invoke_for image own s.regs c [] g ≡ None → ⊥
  no_words c g e d =
      let i = subst (λ z. elim z as (λ w. Demand) [ true ↦ args_for image s.regs g.def.proto.params [] | false ↦ instance_call image own s.regs c [] g ] ≡ None) e d in
      absurd (cc)

  receiver_fine : (c : Call) (ks : List ℕ) (g : Method) (e : x.op ≡ Invoke c ks g) → NativesDo image T m t thread own f rest x s h c ks g e → is_static g ≡ false → DidFine image T m t thread x (with_receiver here_it (native_step here_it) c g ks)
  receiver_fine c [] g e natives static = absurd (no_words c g static (invoke_demand image T m t thread own f rest x s h c [] g e))
  receiver_fine c (k ∷ js) g e natives static = by_sort (is_constructor g) refl
    where
      by_sort : (b : Bool) → is_constructor g ≡ b → DidFine image T m t thread x (elim b as (λ w. Did Left) [ true ↦ call_constructor here_it g (reg_at f.regs k) js | false ↦ call_instance here_it (native_step here_it) c g (reg_at f.regs k) js ])
      by_sort true q = constructor_fine image T m t thread own f rest x s h c k js g e q
      by_sort false q = instance_fine image T m t thread own f rest x s h c (k ∷ js) g e k js refl static q natives

  pub invoke_fine : (c : Call) (ks : List ℕ) (g : Method) (e : x.op ≡ Invoke c ks g) → NativesDo image T m t thread own f rest x s h c ks g e → DidFine image T m t thread x (invoke here_it (native_step here_it) c ks g)
  invoke_fine c ks g e natives = by_sort (is_static g) refl
    where
      by_sort : (b : Bool) → is_static g ≡ b → DidFine image T m t thread x (invoke here_it (native_step here_it) c ks g)
      by_sort true q = static_fine image T m t thread own f rest x s h c ks g e q natives
      by_sort false q = subst (λ b. DidFine image T m t thread x (elim b as (λ w. Did Left) [ true ↦ reading (read_args image m.shared.heap f.regs g.def.proto.params ks) (landed here_it (native_step here_it) (unless_abstract g)) | false ↦ with_receiver here_it (native_step here_it) c g ks ])) (sym q) (receiver_fine c ks g e natives q)
