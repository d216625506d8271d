-- Each instruction on the heap is fine.
use Rattle.std.proofs.Common.{◌≡◌, ℕ, List, Bool, false, refl, sym, ap, ◌∙◌, subst}
use Rattle.std.specs.Prelude.{if◌then◌else◌}
use Rattle.dv_defs.specs.Images.{Image}
use Rattle.dv_machine.specs.Frame.{Frame}
use Rattle.dv_machine.specs.Level.{Level}
use Rattle.dv_typing.specs.declared.typing.RegState.{RegState}
use Rattle.dv_defs.specs.Parts.{Call}
use Rattle.dv_defs.specs.Pools.{Method}
use Rattle.dv_defs.specs.Op.{Op, IntDivide, LongDivide, ConstString, ConstClass, Cast, InstanceOf, ArrayLength, New, NewArray, Filled, Fill, Throw, ArrayGet, ArrayPut, FieldGet, FieldPut, StaticGet, StaticPut, Invoke, ReturnVoid, Return, Enter, Exit, Code, is_local}
use Rattle.dv_typing.specs.Statics.{At}
use Rattle.dv_machine.specs.State.{Thread, Machine, Here}
use Rattle.dv_machine.specs.Mem.{mem}
use Rattle.dv_machine.specs.Step.{act, local_left, here}
use Rattle.dv_machine.specs.WellTyped.{Typings}
use Rattle.law_machine.specs.Premises.{DidFine}
use Rattle.law_machine.specs.StepLaws.{is_of_calls_or_monitors, HeapStepsAreFine}
use Rattle.law_types.proofs.Facts.{no}
use Rattle.law_flow.proofs.Statics.{KeepsRules}
use Rattle.law_machine.proofs.lemmas.HeapSteps.Plain.{divide_int, divide_long, const_string, const_class, new_array_fine, new_fine, throw_fine, instance_of, array_length, cast_fine}
use Rattle.law_machine.proofs.lemmas.HeapSteps.Members.{field_get, field_put, static_get, static_put}
use Rattle.law_machine.proofs.lemmas.HeapSteps.Arrays.{array_get}
use Rattle.law_machine.proofs.lemmas.HeapSteps.Filled.{array_put_fine, fill_fine, filled_fine}
use Rattle.law_machine.proofs.lemmas.Local.Stands.{Stands, stands}

-- such an instruction is one of these
act_mem : (h : Here) (op : Op) → is_local op ≡ false → is_of_calls_or_monitors op ≡ false → act h op ≡ mem h op
act_mem h (Invoke c ks g) l e = no (sym e)
act_mem h ReturnVoid l e = no (sym e)
act_mem h (Return w a) l e = no (sym e)
act_mem h (Enter a) l e = no (sym e)
act_mem h (Exit a) l e = no (sym e)
act_mem h op l e = ap (λ (b : Bool). (if b then local_left h op else mem h op)) l

no_invoke : (op : Op) → is_of_calls_or_monitors op ≡ false → (c : Call) (ks : List ℕ) (g : Method) → op ≡ Invoke c ks g → ⊥
no_invoke op e c ks g i = no (sym e ∙ ap is_of_calls_or_monitors i)

module _ (image : Image) (T : Typings) (m : Machine) (t : ℕ) (thread : Thread) (own : Method) (f : Frame) (rest : List Level) (x : At) (s : RegState) (h : Stands image T m t thread own f rest x s) (code : Code) (rules : KeepsRules image code x.op) (apart : (c : Call) (ks : List ℕ) (g : Method) → x.op ≡ Invoke c ks g → ⊥) where
  mem_fine : (op : Op) → x.op ≡ op → is_local op ≡ false → is_of_calls_or_monitors op ≡ false → DidFine image T m t thread x (mem (here image m t own f rest x.next) op)
  mem_fine (IntDivide o a b c) e l k = divide_int image T m t thread own f rest x s h code rules apart o a b c e
  mem_fine (LongDivide o a b c) e l k = divide_long image T m t thread own f rest x s h code rules apart o a b c e
  mem_fine (ConstString a cs) e l k = const_string image T m t thread own f rest x s h code rules apart a cs e
  mem_fine (ConstClass a u) e l k = const_class image T m t thread own f rest x s h code rules apart a u e
  mem_fine (Cast a u) e l k = cast_fine image T m t thread own f rest x s h code rules apart a u e
  mem_fine (InstanceOf a b u) e l k = instance_of image T m t thread own f rest x s h code rules apart a b u e
  mem_fine (ArrayLength a b) e l k = array_length image T m t thread own f rest x s h code rules apart a b e
  mem_fine (New a c) e l k = new_fine image T m t thread own f rest x s h code rules apart a c e
  mem_fine (NewArray a b u) e l k = new_array_fine image T m t thread own f rest x s h code rules apart a b u e
  mem_fine (Filled rs u) e l k = filled_fine image T m t thread own f rest x s h code rules apart rs u e
  mem_fine (Fill a n ns) e l k = fill_fine image T m t thread own f rest x s h code rules apart a n ns e
  mem_fine (Throw a) e l k = throw_fine image T m t thread own f rest x s h code rules apart a e
  mem_fine (ArrayGet w a b c) e l k = array_get image T m t thread own f rest x s h code rules apart w a b c e
  mem_fine (ArrayPut w a b c) e l k = array_put_fine image T m t thread own f rest x s h code rules apart a b c w e
  mem_fine (FieldGet w a b y) e l k = field_get image T m t thread own f rest x s h code rules apart w a b y e
  mem_fine (FieldPut w a b y) e l k = field_put image T m t thread own f rest x s h code rules apart w a b y e
  mem_fine (StaticGet w a y) e l k = static_get image T m t thread own f rest x s h code rules apart w a y e
  mem_fine (StaticPut w a y) e l k = static_put image T m t thread own f rest x s h code rules apart w a y e
  mem_fine op e l k = absurd (cc)

pub heap_steps_are_fine : HeapStepsAreFine
heap_steps_are_fine image T m t thread h x s i k =
    let fine = mem_fine image T m t thread h.own h.frame h.rest x s (stands image T m t thread h x s i) i.code (i.fine.reference, i.fine.rules) (no_invoke x.op k.1) x.op refl k.0 k.1 in
    subst (DidFine image T m t thread x) (sym (ap (λ (y : Here). act y x.op) i.sees ∙ act_mem (here image m t h.own h.frame h.rest x.next) x.op k.0 k.1)) fine
