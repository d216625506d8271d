-- Every invoke is fine.
use Rattle.std.proofs.Common.{◌≡◌, ℕ, List, sym, ap, subst}
use Rattle.dv_defs.specs.Images.{Image}
use Rattle.dv_defs.specs.declared.run.Native.TheVariants as native
use Rattle.dv_machine.specs.Frame.{Frame}
use Rattle.dv_machine.specs.Level.{Level}
use Rattle.dv_typing.specs.declared.typing.RegState.{RegState}
use Rattle.dv_defs.specs.Parts.{Call}
use Rattle.dv_defs.specs.Pools.{Method}
use Rattle.dv_defs.specs.Op.{Invoke}
use Rattle.dv_typing.specs.Statics.{At}
use Rattle.dv_machine.specs.Heap.{kind_of}
use Rattle.dv_machine.specs.State.{Thread, Machine, Here}
use Rattle.dv_machine.specs.Texts.{text_of}
use Rattle.dv_machine.specs.Natives.{arg, number_of, object_number, same_text}
use Rattle.dv_machine.specs.Step.{act, here}
use Rattle.dv_machine.specs.WellTyped.{Typings}
use Rattle.law_machine.specs.Premises.{DidFine}
use Rattle.law_machine.specs.StepLaws.{InvokesPush}
use Rattle.law_machine.proofs.lemmas.Local.Stands.{Stands, stands}
use Rattle.law_machine.proofs.lemmas.Calls.Invoked.{NativesDo}
use Rattle.law_machine.proofs.lemmas.Calls.Fine.{invoke_fine}
use Rattle.law_machine.proofs.lemmas.Natives.Each.{current_fine, length_fine, char_fine, equals_fine, concat_fine, of_long_fine, of_chars_fine, print_fine, println_fine, join_fine, wait_fine, notify_fine, notify_all_fine, start_fine}

module _ (image : Image) (T : Typings) (m : Machine) (t : ℕ) (thread : Thread) (own : Method) (f : Frame) (rest : List Level) (x : At) (s : RegState) (h : Stands image T m t thread own f rest x s) (c : Call) (ks : List ℕ) (g : Method) (e : x.op ≡ Invoke c ks g) where
  natives_do : NativesDo image T m t thread own f rest x s h c ks g e
  natives_do k native.Wait xs q = wait_fine image T m t thread own f rest x s h c ks g e k xs q
  natives_do k native.Notify xs q = notify_fine image T m t thread own f rest x s h c ks g e k xs q (object_number (arg xs 0))
  natives_do k native.NotifyAll xs q = notify_all_fine image T m t thread own f rest x s h c ks g e k xs q (object_number (arg xs 0))
  natives_do k native.Start xs q = start_fine image T m t thread own f rest x s h c ks g e k xs q
  natives_do k native.Join xs q = join_fine image T m t thread own f rest x s h c ks g e k xs q (object_number (arg xs 0))
  natives_do k native.CurrentThread xs q = current_fine image T m t thread own f rest x s h c ks g e k xs q
  natives_do k native.Length xs q = length_fine image T m t thread own f rest x s h c ks g e k xs q
  natives_do k native.CharAt xs q = char_fine image T m t thread own f rest x s h c ks g e k xs q (text_of m.shared.heap (object_number (arg xs 0))) (number_of (arg xs 1))
  natives_do k native.Equals xs q = equals_fine image T m t thread own f rest x s h c ks g e k xs q (same_text (text_of m.shared.heap (object_number (arg xs 0))) (kind_of m.shared.heap (object_number (arg xs 1))))
  natives_do k native.Concat xs q = concat_fine image T m t thread own f rest x s h c ks g e k xs q
  natives_do k native.OfLong xs q = of_long_fine image T m t thread own f rest x s h c ks g e k xs q
  natives_do k native.OfChars xs q = of_chars_fine image T m t thread own f rest x s h c ks g e k xs q
  natives_do k native.Print xs q = print_fine image T m t thread own f rest x s h c ks g e k xs q
  natives_do k native.Println xs q = println_fine image T m t thread own f rest x s h c ks g e k xs q

  invoke_does : DidFine image T m t thread x (act (here image m t own f rest x.next) x.op)
  invoke_does = subst (λ z. DidFine image T m t thread x (act (here image m t own f rest x.next) z)) (sym e) (invoke_fine image T m t thread own f rest x s h c ks g e natives_do)

pub invokes_push : InvokesPush
invokes_push image T m t thread h x s i e =
    subst (DidFine image T m t thread x) (sym (ap (λ (z : Here). act z x.op) i.sees))
    (invoke_does image T m t thread h.own h.frame h.rest x s (stands image T m t thread h x s i) e.0 e.1 e.2 e.3)
