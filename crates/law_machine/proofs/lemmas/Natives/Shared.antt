-- What the natives share: their prototypes, and the caller's frame after them.
use Rattle.std.proofs.Common.{◌≡◌, ℕ, suc, List, [], ◌∷◌, length, Bool, true, false, Option, Some, None, refl, sym, ap, ◌∙◌, subst, arith}
use Rattle.std.specs.Option.{option_to_list}
use Rattle.std.specs.Prelude.{All}
use Rattle.std.proofs.lemmas.List.Elements.{All-cons, All-head}
use Rattle.std.proofs.lemmas.Option.{none-some, same_Some}
use Rattle.dv_defs.specs.declared.names.Ty.{Ty}
use Rattle.dv_defs.specs.declared.names.Proto.{Proto}
use Rattle.dv_defs.specs.Images.{Image}
use Rattle.dv_machine.specs.Value.{Value}
use Rattle.dv_machine.specs.Value as v
use Rattle.dv_defs.specs.declared.run.Native.{Native}
use Rattle.dv_defs.specs.declared.run.Native.TheVariants as native
use Rattle.dv_machine.specs.Pending.{Pending}
use Rattle.dv_machine.specs.Frame.{Frame}
use Rattle.dv_machine.specs.Level.{Level}
use Rattle.dv_machine.specs.Level as level
use Rattle.dv_defs.specs.declared.machine.End.TheVariants as end
use Rattle.dv_typing.specs.declared.typing.RegState.{RegState}
use Rattle.dv_defs.specs.Parts.{Call}
use Rattle.dv_defs.specs.Pools.{Method, is_static}
use Rattle.dv_defs.specs.Op.{Op, Invoke}
use Rattle.dv_typing.specs.Statics.{At}
use Rattle.dv_typing.specs.RegTypes.{type_at}
use Rattle.dv_typing.specs.Transfer as after
use Rattle.dv_typing.specs.Transfer.{out, after_constructor, first_of, pending_of}
use Rattle.dv_typing.specs.Flow.{Leads, targets, is_exit}
use Rattle.dv_machine.specs.Heap.{Heap}
use Rattle.dv_machine.specs.Monitors.{wait_of}
use Rattle.dv_machine.specs.State.{Thread, Machine, Shared, reg_at, with_result}
use Rattle.dv_machine.specs.Calls.{dispatch, native_of, receiver_of, signature}
use Rattle.dv_machine.specs.Conforming.{Own, ResultConforms, ResultFine, RefsFine, Conform}
use Rattle.dv_machine.specs.WellTyped.{Typings, own_of, this_above, IsPlaced, CodeFine, ThreadFine, HeapFine, records}
use Rattle.law_machine.specs.Premises.{KeepsKinds, StartedFine, LeftFine, ThrowFine, ThrowStays}
use Rattle.law_types.proofs.Facts.{nothing}
use Rattle.law_machine.proofs.lemmas.Growth.Kinds.{good_grown, stack_grown, refs_grown, all_refs_grown}
use Rattle.law_machine.proofs.lemmas.Growth.Threads.{records_after}
use Rattle.law_machine.proofs.lemmas.Monitors.Moved.{quiet_moved}
use Rattle.law_machine.proofs.lemmas.Exceptions.Flown.{records_of}
use Rattle.law_machine.proofs.lemmas.Common.Conformity.{frame_up}
use Rattle.law_machine.proofs.lemmas.Local.Still.{IsQuiet}
use Rattle.law_machine.proofs.lemmas.Local.Stands.{Stands, same_lowest, stack_fine, code_fine, frame_refs, rest_refs}
use Rattle.law_machine.proofs.lemmas.Calls.Invoked.{WaitsAt, quiet_at, throws, no_entry, CallsNative, IsReceiver, no_receiver_of}
use Rattle.law_machine.proofs.lemmas.Calls.Dispatched.{same_lands}

module _ (image : Image) (T : Typings) (m : Machine) (t : ℕ) (thread : Thread) (own : Method) (f : Frame) (rest : List Level) (x : At) (s : RegState) (h : Stands image T m t thread own f rest x s) (c : Call) (ks : List ℕ) (g : Method) (e : x.op ≡ Invoke c ks g) (k : Method) (j : Native) (xs : List Value) (q : CallsNative image T m t thread own f rest x s h c ks g e k j xs) where
  abbrev heap : Heap
  heap = m.shared.heap

  -- ---- the native's prototype

  pub same_proto : k.def.proto ≡ (signature j).proto
  same_proto = (h.may.accepted.bodies.native k.id k j q.there q.is_native).0

  pub same_static : is_static k ≡ (signature j).is_static
  same_static = (h.may.accepted.bodies.native k.id k j q.there q.is_native).1

  abbrev pub result : Option Ty
  result = (signature j).proto.ret

  same_result : g.def.proto.ret ≡ result
  same_result = ap (λ (p : Proto). p.ret) (sym q.same_proto ∙ same_proto)

  -- ---- the thread waits in no entry, but for a wait

  waits_not : (o : ℕ) → WaitsAt image T m t thread own f rest x s h c ks g e o → native.Wait ≡ j
  waits_not o w = by_sort (is_static k) refl
    where
      same_ref : (a b : ℕ) → v.Ref (suc a) ≡ v.Ref (suc b) → a ≡ b
      same_ref a b e = cc

      of_instance : IsReceiver image T m t thread own f rest x s h c ks g e k xs → native.Wait ≡ j
      of_instance r =
          let register : r.register ≡ w.receiver = same_Some r.register w.receiver (sym r.has_register ∙ ap receiver_of e ∙ w.has_receiver) in
          let object : r.object ≡ o = same_ref r.object o (sym r.holds ∙ ap (reg_at f.regs) register ∙ w.holds) in
          let method : k ≡ w.landed = same_lands k w.landed (sym r.lands ∙ ap (λ z. dispatch image heap own c g (suc z)) object ∙ w.lands) in
          same_Some native.Wait j (sym w.is_wait ∙ ap (native_of image) (sym method) ∙ q.is_native)

      by_sort : (b : Bool) → is_static k ≡ b → native.Wait ≡ j
      by_sort true i = absurd (none-some _ (sym (no_receiver_of c ks g (q.static i)) ∙ w.has_receiver))
      by_sort false i = of_instance (q.instance i)

  module _ (other : native.Wait ≡ j → ⊥) where
    pub native_quiet : IsQuiet image m t
    native_quiet = quiet_at image T m t thread own f rest x s h c ks g e (λ o w. other (waits_not o w))

    pub native_throws : ThrowFine m t x
    native_throws = throws image T m t thread own f rest x s h c ks g e native_quiet

    pub native_stops : ThrowStays m t x
    native_stops = (native_throws, ap is_exit e)

    pub native_apart : wait_of m.shared.monitors t ≡ None
    native_apart = no_entry image T m t thread own f rest x s h native_quiet

  -- ---- the caller's state after it

  abbrev pub state_after : RegState
  state_after = after.with_pending s (pending_of result)

  out_is : (op : Op) → op ≡ Invoke c ks g → out image own f.at op s ≡ state_after
  out_is op i = ap (λ z. out image own f.at z s) i ∙ ap (λ b. elim b as (λ w. RegState) [ true ↦ after.with_pending (after_constructor image own s (type_at s.regs (first_of ks))) (pending_of g.def.proto.ret) | false ↦ after.with_pending s (pending_of g.def.proto.ret) ]) q.plain ∙ ap (λ z. after.with_pending s (pending_of z)) same_result

  leads_on : (op : Op) (n : ℕ) (st : RegState) → op ≡ Invoke c ks g → All (Leads image (T f.method.0) st) (targets (record { op = op; next = n })) → Leads image (T f.method.0) st n
  leads_on op n st i a = All-head (Leads image (T f.method.0) st) n [] (subst (λ z. All (Leads image (T f.method.0) st) (targets (record { op = z; next = n }))) i a)

  pub native_leads : Leads image (T f.method.0) state_after x.next
  native_leads = subst (λ st. Leads image (T f.method.0) st x.next) (out_is x.op e) (leads_on x.op x.next (out image own f.at x.op s) e h.flows)

  -- ---- the caller's frame, where objects may have been added and bytes printed

  module _ (new : Heap) (printed : List ℕ) (grows : KeepsKinds heap new) (fine : HeapFine image new) (p : Pending) (conforms : (o : Own) → ResultConforms image new o p (pending_of result)) (there : ResultFine image new p) where
    abbrev pub frame_after : Frame
    frame_after = with_result f x.next p

    abbrev pub shared_after : Shared
    shared_after = record { heap = new; classes = m.shared.classes; monitors = m.shared.monitors; output = printed }

    after_conforms : Conform image new (own_of image (this_above image rest) own) frame_after state_after
    after_conforms = record { good = good_grown image heap new grows (own_of image (this_above image rest) own) f.regs s.regs h.conform.good; result = conforms (own_of image (this_above image rest) own); caught = tt; this_pending = h.conform.this_pending }

    after_placed : IsPlaced image T new (this_above image rest) frame_after
    after_placed = record {
      method = own;
      has_method = h.has_own;
      state = native_leads.state;
      has_state = native_leads.has_state;
      conform = frame_up image h.may.accepted.order new (own_of image (this_above image rest) own) frame_after state_after native_leads.state native_leads.below after_conforms;
    }

    after_code : CodeFine image T new frame_after rest
    after_code = let b = code_fine image T m t thread own f rest x s h in record { frame = record { code = b.frame.code; has_code = b.frame.has_code; registers = b.frame.registers }; below = b.below }

    pub levels_after : ThreadFine image T new t (level.Code frame_after ∷ rest) end.Living
    levels_after = (same_lowest f frame_after rest (stack_fine image T m t thread own f rest x s h).0, (after_code, after_placed, tt, stack_grown image heap new grows T t rest h.rest_fine))

    after_refs : All (RefsFine image new) (level.Code frame_after ∷ rest)
    after_refs =
        let r = refs_grown image heap new grows (level.Code f) (frame_refs image T m t thread own f rest x s h) in
        All-cons (RefsFine image new) (level.Code frame_after) rest (r.0, there, tt) (all_refs_grown image heap new grows rest (rest_refs image T m t thread own f rest x s h))

    pub started_left : (u : Option Thread) → ((y : Thread) → u ≡ Some y → (d : ℕ) → records d y.levels ≡ 0) → ((y : Thread) → u ≡ Some y → StartedFine image T new (length m.threads) y) → wait_of m.shared.monitors t ≡ None → LeftFine image T m t thread (record { levels = level.Code frame_after ∷ rest; shared = shared_after; started = u })
    started_left u none fresh apart = record {
      keeps = grows;
      levels = levels_after;
      refs = after_refs;
      heap = fine;
      class_states = h.may.typed.class_states;
      monitors = quiet_moved image m.threads t thread _ (option_to_list u) m.shared shared_after m.steps (suc m.steps) grows refl (omega arith) h.has_thread h.may.typed.refs apart h.may.typed.monitors;
      in_progress = records_after m.threads t thread _ u h.has_thread m.shared.classes m.shared.classes h.may.typed.in_progress (records_of image T m t thread (level.Code f ∷ rest) h.may.typed h.has_thread h.levels) (λ y d n. refl) none;
      started = fresh;
    }

    pub native_left : wait_of m.shared.monitors t ≡ None → LeftFine image T m t thread (record { levels = level.Code frame_after ∷ rest; shared = shared_after; started = None })
    native_left apart = started_left None (λ y i. nothing ((d : ℕ) → records d y.levels ≡ 0) y i) (λ y i. nothing _ y i) apart
