-- Returns drop a frame and leave the caller's in order.
use Rattle.std.proofs.Common.{◌≡◌, ℕ, List, [], ◌∷◌, Bool, true, false, Option, Some, None, refl, sym, ap, ◌∙◌, subst}
use Rattle.std.specs.Prelude.{All, ◌&&◌, not, if◌then◌else◌}
use Rattle.std.proofs.lemmas.List.Elements.{All-nil, All-head}
use Rattle.std.proofs.lemmas.Bool.{and_parts, and_from}
use Rattle.dv_defs.specs.declared.names.Ty.{Ty}
use Rattle.dv_defs.specs.Images.{Image}
use Rattle.dv_machine.specs.Value.{Value}
use Rattle.dv_machine.specs.Value as v
use Rattle.dv_machine.specs.Why as why
use Rattle.dv_machine.specs.Pending.{Pending}
use Rattle.dv_machine.specs.Pending as pending
use Rattle.dv_machine.specs.Frame.{Frame}
use Rattle.dv_machine.specs.Level.{Level}
use Rattle.dv_machine.specs.Level as level
use Rattle.dv_typing.specs.declared.typing.RegState.{RegState}
use Rattle.dv_defs.specs.Parts.{Call, Width}
use Rattle.dv_defs.specs.Pools.{Method, is_constructor}
use Rattle.dv_defs.specs.Op.{Op, Invoke, ReturnVoid, Return, is_return}
use Rattle.dv_typing.specs.Statics.{At}
use Rattle.dv_typing.specs.RegTypes.{reg_types}
use Rattle.dv_typing.specs.Demands.{demands, demand, this_initialised, first, is_void, same_width, result_width, value_returned}
use Rattle.dv_machine.specs.Heap.{Heap}
use Rattle.dv_machine.specs.State.{Thread, Machine, Left, Did, IsStuck, read_value, Here}
use Rattle.dv_machine.specs.Calls.{back, back_on, back_to, unless_pending, pending_words, return_value, return_form, return_void}
use Rattle.dv_machine.specs.Step.{act, here}
use Rattle.dv_machine.specs.Conforming.{RefFine, ResultFine, RefsFine}
use Rattle.dv_machine.specs.WellTyped.{Typings, own_of, this_above, StackFine, records}
use Rattle.law_machine.specs.Premises.{DidFine}
use Rattle.law_machine.specs.StepLaws.{ReturnsPop}
use Rattle.law_machine.specs.Reading.{AreWords}
use Rattle.law_types.proofs.Facts.{no}
use Rattle.law_types.proofs.Demanded.{first_none, demanded}
use Rattle.law_machine.proofs.lemmas.Readers.Words.{reads_value, words_pend}
use Rattle.law_machine.proofs.lemmas.Local.Still.{still, IsQuiet}
use Rattle.law_machine.proofs.lemmas.Local.Stands.{Stands, stands, rest_refs, rest_lowest, read_then}
use Rattle.law_machine.proofs.lemmas.Local.Fine.{quiet}
use Rattle.law_machine.proofs.lemmas.Returns.Caller.{IsResult, called, caller_left}
use Rattle.dv_defs.specs.declared.faults.Rule.TheVariants as rule

module _ (image : Image) (T : Typings) (m : Machine) (t : ℕ) (thread : Thread) (own : Method) (f : Frame) (rest : List Level) (x : At) (s : RegState) (h : Stands image T m t thread own f rest x s) where
  abbrev heap : Heap
  heap = m.shared.heap

  abbrev here_it : Here
  here_it = here image m t own f rest x.next

  module _ (q : IsQuiet image m t) where
    back_fine : (p : Pending) → IsResult image heap own.def.proto.ret p → DidFine image T m t thread x (back here_it p)
    back_fine p r = at_rest rest refl
      where
        at_rest : (ls : List Level) → rest ≡ ls → DidFine image T m t thread x (back_on here_it p ls)
        at_rest [] is = still image T m t thread h.has_thread [] h.may.typed q refl (All-nil (RefsFine image heap)) (λ c. ap (records c) (sym is) ∙ ap (records c) (sym h.levels))
        at_rest (level.Init c b ∷ ls) is = still image T m t thread h.has_thread (level.Init c b ∷ ls) h.may.typed q
            (rest_lowest image T m t thread own f rest x s h (level.Init c b) ls is, subst (StackFine image T heap t None) is h.rest_fine)
            (subst (All (RefsFine image heap)) is (rest_refs image T m t thread own f rest x s h))
            (λ k. ap (records k) (sym is) ∙ ap (records k) (sym h.levels))
        at_rest (level.Code g ∷ ls) is = subst (λ z. DidFine image T m t thread x (back_to here_it p g ls z)) (sym (called image T m t thread own f rest x s h g ls is p r).has_at) (caller_left image T m t thread own f rest x s h g ls is p r q)

    -- a frame whose `this` isn't pending returns
    unless_fine : (go : Did Left) → this_initialised own s ≡ None → DidFine image T m t thread x go → DidFine image T m t thread x (unless_pending here_it go)
    unless_fine go d k = by_test (is_constructor own && f.this_pending) pending
      where
        pending : is_constructor own && f.this_pending ≡ true → is_constructor own && s.this_pending ≡ true
        pending e =
            let p = and_parts (is_constructor own) f.this_pending e in
            and_from (is_constructor own) s.this_pending p.0 (h.conform.this_pending p.1)

        by_test : (b : Bool) → (b ≡ true → is_constructor own && s.this_pending ≡ true) → DidFine image T m t thread x (if b then IsStuck why.Uninitialised else go)
        by_test true n = no (ap not (sym (n refl)) ∙ demanded (not (is_constructor own && s.this_pending)) (rule.V 12) d)
        by_test false n = k

    void_result : (o : Option Ty) → is_void o ≡ true → IsResult image heap o pending.None
    void_result None e = record { conforms = λ this k. tt; fine = tt }
    void_result (Some u) e = no e

    void_fine : first (demand (is_void own.def.proto.ret) (rule.V 13)) (this_initialised own s) ≡ None → DidFine image T m t thread x (return_void here_it)
    void_fine d =
        let e = first_none (demand (is_void own.def.proto.ret) (rule.V 13)) (this_initialised own s) d in
        let void = demanded (is_void own.def.proto.ret) (rule.V 13) e.0 in
        subst (λ b. DidFine image T m t thread x (if b then unless_pending here_it (back here_it pending.None) else IsStuck why.Result)) (sym void)
        (unless_fine (back here_it pending.None) e.1 (back_fine pending.None (void_result own.def.proto.ret void)))

    pending_fine : (ys : List Value) → All (RefFine image heap) ys → ResultFine image heap (pending_words ys)
    pending_fine (v.Lo lo ∷ v.Hi hi ∷ ys) a = tt
    pending_fine (y ∷ ys) a = All-head (RefFine image heap) y ys a
    pending_fine [] a = tt

    value_fine : (a : ℕ) (o : Option Ty) → own.def.proto.ret ≡ o → not (is_void o) ≡ true → value_returned image s.regs a o ≡ None → DidFine image T m t thread x (return_value here_it a o)
    value_fine a None e n d = no n
    value_fine a (Some u) e n d =
        read_then image T m t thread x (λ ys. AreWords image heap ys (reg_types u)) (read_value image heap f.regs a u) _
        (reads_value image heap (own_of image (this_above image rest) own) f.regs s.regs a u h.may.accepted.order h.conform.good.regs d)
        (λ ys w. back_fine (pending_words ys) (subst (λ o. IsResult image heap o (pending_words ys)) (sym e) (record { conforms = λ this k. words_pend image heap (own_of image this k) ys u w; fine = pending_fine ys w.refs })))

    form_fine : (w : Width) (a : ℕ) → demands image own (Return w a) s ≡ None → DidFine image T m t thread x (return_form here_it w a)
    form_fine w a d =
        let ret = own.def.proto.ret in
        let e = first_none (demand (not (is_void ret) && same_width w (result_width ret)) (rule.V 13)) (first (this_initialised own s) (value_returned image s.regs a ret)) d in
        let g = first_none (this_initialised own s) (value_returned image s.regs a ret) e.1 in
        let form = demanded (not (is_void ret) && same_width w (result_width ret)) (rule.V 13) e.0 in
        subst (λ b. DidFine image T m t thread x (if b then unless_pending here_it (return_value here_it a ret) else IsStuck why.Result)) (sym form)
        (unless_fine (return_value here_it a ret) g.0 (value_fine a ret refl (and_parts (not (is_void ret)) (same_width w (result_width ret)) form).0 g.1))

    return_fine : (op : Op) → is_return op ≡ true → demands image own op s ≡ None → DidFine image T m t thread x (act here_it op)
    return_fine ReturnVoid e d = void_fine d
    return_fine (Return w a) e d = form_fine w a d
    return_fine op e d = no e

  -- a return is no invoke
  not_invoke : (op : Op) (c : Call) (ks : List ℕ) (g : Method) → is_return op ≡ true → op ≡ Invoke c ks g → ⊥
  not_invoke op c ks g e i = no (subst (λ z. is_return z ≡ true) i e)

  returns_fine : is_return x.op ≡ true → DidFine image T m t thread x (act here_it x.op)
  returns_fine e = return_fine (quiet image T m t thread own f rest x s h (λ o w. not_invoke x.op w.call w.args w.callee e w.is_invoke)) x.op e h.demand

pub returns_pop : ReturnsPop
returns_pop image T m t thread h x s i e =
    subst (DidFine image T m t thread x) (sym (ap (λ (z : Here). act z x.op) i.sees))
    (returns_fine image T m t thread h.own h.frame h.rest x s (stands image T m t thread h x s i) e)
