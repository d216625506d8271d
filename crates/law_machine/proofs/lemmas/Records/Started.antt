-- A thread that is started stands at the begin of its run method.
use Rattle.std.proofs.Common.{◌≡◌, ◌≢◌, ℕ, zero, suc, ◌+◌, ◌≤◌, List, [], ◌∷◌, Bool, true, false, not, Option, Some, None, refl, sym, ap, ◌∙◌, subst, arith}
use Rattle.std.specs.Prelude.{bytes_eq, codes}
use Rattle.std.proofs.lemmas.Bool.{and_left, and_right}
use Rattle.std.proofs.lemmas.List.Elements.{All-cons, All-nil}
use Rattle.dv_defs.specs.declared.names.Ty.{Ty}
use Rattle.dv_defs.specs.declared.names.Proto.{Proto}
use Rattle.dv_defs.specs.declared.code.Body.{Body}
use Rattle.dv_defs.specs.Images.{Image}
use Rattle.dv_machine.specs.Value as v
use Rattle.dv_machine.specs.Level as level
use Rattle.dv_machine.specs.Kind.{Kind}
use Rattle.dv_typing.specs.declared.typing.RegType.TheVariants as ty
use Rattle.dv_defs.specs.Names.{thread_name, init_name}
use Rattle.dv_defs.specs.Types.{of_class, words_of_all}
use Rattle.dv_typing.specs.Statics.{receiver_words, arg_words}
use Rattle.dv_defs.specs.Pools.{Method, method_at, is_static, is_constructor, is_of_object, own_type, no_arguments, initialiser}
use Rattle.dv_defs.specs.Selecting.{selected}
use Rattle.dv_typing.specs.RegTypes.{Types, type_at, all_types}
use Rattle.dv_typing.specs.Transfer.{arg_types, begins_uninitialised}
use Rattle.dv_machine.specs.Heap.{Heap}
use Rattle.dv_machine.specs.State.{reg_at}
use Rattle.dv_machine.specs.Calls.{Lands, landing, entered_frame, all_natives, class_of_kind}
use Rattle.dv_machine.specs.Threads.{new_thread, run_landing}
use Rattle.dv_machine.specs.Conforming.{Own, IsOf, Fits, IsGood, Conforms, IsUninit, RefFine, RefsFine}
use Rattle.dv_machine.specs.WellTyped.{Typings, own_of}
use Rattle.dv_machine.specs.Accepted.{Accepted, IsSelected}
use Rattle.law_machine.specs.Premises.{StartedFine}
use Rattle.law_machine.specs.StepLaws.{NewThreadIsFine}
use Rattle.law_types.proofs.Facts.{no}
use Rattle.law_machine.proofs.lemmas.Common.Facts.{fits_of}
use Rattle.law_machine.proofs.lemmas.Calls.Classes.{looked_up_fits}
use Rattle.law_machine.proofs.lemmas.Exceptions.Rises.{object_there}
use Rattle.law_machine.proofs.lemmas.Records.Entered.{refs_entered, entered_code, entered_placed}
use Rattle.law_flow.proofs.MethodCode.{the_code, code_there}
use Rattle.law_machine.proofs.lemmas.Calls.Words.{instance_types}
use Rattle.law_machine.proofs.lemmas.Calls.Dispatched.{NoneNamed, no_native, selection}
use Rattle.law_machine.proofs.lemmas.Common.Members.{class_of_method}

-- ---- the method run

run_named : NoneNamed all_natives (codes "run")
run_named = (refl, (refl, (refl, (refl, (refl, (refl, (refl, (refl, (refl, (refl, (refl, (refl, (refl, (refl, tt))))))))))))))

begins_plain : (image : Image) (m : Method) → m.def.name ≡ codes "run" → begins_uninitialised image m ≡ false
begins_plain image m e = and_left (is_constructor m) (not (is_of_object image m)) (and_right (not (is_static m)) (bytes_eq m.def.name init_name) (subst (λ (name : List ℕ). bytes_eq name init_name ≡ false) (sym e) refl))

receiver_alone : (image : Image) (m : Method) → is_static m ≡ false → begins_uninitialised image m ≡ false → m.def.proto ≡ no_arguments → arg_types image m ≡ ty.Class (own_type image m) ∷ []
receiver_alone image m s b p = instance_types image m s b ∙ ap (λ (q : Proto). ty.Class (own_type image m) ∷ all_types q.params) p

pub one_good : (image : Image) (heap : Heap) (own : Own) (o : ℕ) (t : Ty) → Fits image heap o t → IsGood image heap own (v.Ref o ∷ []) (ty.Class t ∷ [])
one_good image heap own o t f = record { regs = regs; count = refl; apart = λ j k u w. absurd (plain j u) }
  where
    regs : (k : ℕ) → Conforms image heap own (reg_at (v.Ref o ∷ []) k) (type_at (ty.Class t ∷ []) k)
    regs zero = f
    regs (suc k) = tt

    plain : (j : ℕ) → IsUninit (type_at (ty.Class t ∷ []) j) → ⊥
    plain zero u = u
    plain (suc j) u = u

-- a method with a receiver and no parameters has a register for it
has_register : (image : Image) (T : Typings) → Accepted image T → (m : Method) (b : Body) → method_at image m.id ≡ Some m → m.def.body ≡ Some b → is_static m ≡ false → m.def.proto ≡ no_arguments → 1 ≤ b.registers
has_register image T acc m b there body s p =
    let room : arg_words m ≤ b.registers = acc.typed.room m.id (the_code m b) (code_there image m.id m b there body) in
    let words : arg_words m ≡ 1 = ap (λ (q : Proto). receiver_words m + words_of_all q.params) p ∙ ap (λ (x : Bool). elim x as (λ y. ℕ) [ true ↦ 0 | false ↦ 1 ] + 0) s in
    omega (arith, room, words)

module _ (image : Image) (T : Typings) (acc : Accepted image T) (heap : Heap) (n o : ℕ) (run : Method) (i : IsOf image heap o (of_class thread_name)) (c : ℕ) (own : class_of_kind image (Some i.object.kind) ≡ Some c) (lands : landing image (selected image c (codes "run") no_arguments) ≡ Lands run) where
  runs : (method_at image run.id ≡ Some run) × IsSelected image c (codes "run") no_arguments run
  runs = selection image T acc heap c (codes "run") no_arguments run lands

  body : (b : Body) × (run.def.body ≡ Some b)
  body = acc.bodies.body run.id run runs.0 runs.1.concrete (no_native image run (codes "run") run_named runs.1.named)

  -- the object fits the class of the method
  receiver_fits : IsOf image heap o (own_type image run)
  receiver_fits = looked_up_fits image T acc heap o (of_class thread_name) c run.info.class.0 refl i (ap (class_of_kind image) i.object.has_kind ∙ own) (class_of_method image run.id run runs.0) runs.1.among

  no_initialiser : initialiser image run.info.class.0 ≢ Some run
  no_initialiser e = no (sym runs.1.instance ∙ (acc.finds.initialisers run.info.class.0 run e).1)

  begins : begins_uninitialised image run ≡ false
  begins = begins_plain image run runs.1.named

  started : StartedFine image T heap n (new_thread o run)
  started = record {
    thread = (
      tt,
      (
        entered_code image T acc heap run body.0 runs.0 body.1 (v.Ref o ∷ []) false [] (has_register image T acc run body.0 runs.0 body.1 runs.1.instance runs.1.proto) no_initialiser,
        entered_placed image T acc heap run body.0 runs.0 body.1 None (v.Ref o ∷ []) begins (subst (λ (ts : Types). IsGood image heap (own_of image None run) (v.Ref o ∷ []) ts) (sym (receiver_alone image run runs.1.instance begins runs.1.proto)) (one_good image heap (own_of image None run) o (own_type image run) (fits_of image heap o (own_type image run) receiver_fits))),
        tt,
        tt,
      ),
    );
    refs = All-cons (RefsFine image heap) (level.Code (entered_frame run (v.Ref o ∷ []) false)) [] (refs_entered image heap run (v.Ref o ∷ []) false (All-cons (RefFine image heap) (v.Ref o) [] (object_there image heap o i.object) (All-nil (RefFine image heap)))) (All-nil (RefsFine image heap));
    object = i;
  }

pub new_thread_is_fine : NewThreadIsFine
new_thread_is_fine image T heap n o run acc i lands = go (class_of_kind image (Some i.object.kind)) refl (sym (ap (λ (k : Option Kind). run_landing image (class_of_kind image k)) i.object.has_kind) ∙ lands)
  where
    go : (x : Option ℕ) → class_of_kind image (Some i.object.kind) ≡ x → run_landing image x ≡ Lands run → StartedFine image T heap n (new_thread o run)
    go None e f = absurd (cc)
    go (Some c) e f = started image T acc heap n o run i c e f
