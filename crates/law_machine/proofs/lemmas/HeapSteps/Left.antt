-- What a step that may change the heap leaves is in order, by its registers and pending result.
use Rattle.std.proofs.Common.{◌≡◌, ℕ, suc, List, [], ◌∷◌, length, Bool, true, false, Option, Some, None, refl, ap, ◌∙◌, subst, arith}
use Rattle.std.specs.Prelude.{slice_set, All}
use Rattle.std.proofs.lemmas.List.{length-set}
use Rattle.std.proofs.lemmas.List.Elements.{All-cons, All-set, All-head}
use Rattle.dv_defs.specs.Images.{Image}
use Rattle.dv_machine.specs.Value.{Value}
use Rattle.dv_machine.specs.Value as v
use Rattle.dv_defs.specs.declared.run.Named.{Named}
use Rattle.dv_machine.specs.Pending.{Pending}
use Rattle.dv_machine.specs.Pending as pending
use Rattle.dv_machine.specs.Frame.{Frame}
use Rattle.dv_machine.specs.Level.{Level}
use Rattle.dv_machine.specs.Level as level
use Rattle.dv_typing.specs.declared.typing.RegType.{RegType}
use Rattle.dv_typing.specs.declared.typing.PendingType.{PendingType}
use Rattle.dv_typing.specs.declared.typing.PendingType.TheVariants as pend
use Rattle.dv_typing.specs.declared.typing.RegState.{RegState}
use Rattle.dv_defs.specs.Parts.{Call}
use Rattle.dv_defs.specs.Pools.{Method}
use Rattle.dv_defs.specs.Op.{Invoke}
use Rattle.dv_typing.specs.Statics.{At}
use Rattle.dv_typing.specs.Demands.{goes_on}
use Rattle.dv_typing.specs.RegTypes.{Types}
use Rattle.dv_typing.specs.Transfer.{out, going, with_pending, write_type, write_long}
use Rattle.dv_typing.specs.Flow.{Leads, jumps}
use Rattle.dv_machine.specs.Heap.{Heap}
use Rattle.dv_machine.specs.Monitors.{wait_of}
use Rattle.dv_machine.specs.State.{Thread, Machine, Left, Did, where_room, where_true, with_heap}
use Rattle.dv_machine.specs.Conforming.{IsGood, RefFine, ResultFine, RefsFine, ResultConforms}
use Rattle.dv_machine.specs.WellTyped.{Typings, own_of, this_above, HeapFine, records}
use Rattle.law_machine.specs.Premises.{KeepsKinds, LeftFine, ThrowFine, ThrowStays, DidFine}
use Rattle.law_machine.specs.StepLaws.{IsFrom}
use Rattle.law_types.proofs.Facts.{nothing}
use Rattle.law_machine.proofs.lemmas.Growth.Kinds.{good_grown, refs_grown, all_refs_grown, stack_grown}
use Rattle.law_machine.proofs.lemmas.Growth.Threads.{records_after}
use Rattle.law_machine.proofs.lemmas.Monitors.Owners.{entry_none}
use Rattle.law_machine.proofs.lemmas.Monitors.Moved.{quiet_moved}
use Rattle.law_machine.proofs.lemmas.Exceptions.Flown.{living_fine, records_of, lowest_top}
use Rattle.law_machine.proofs.lemmas.Common.Conformity.{frame_up}
use Rattle.law_machine.proofs.lemmas.Registers.Written.{write_keeps, long_write_keeps}
use Rattle.law_machine.proofs.lemmas.Local.Stands.{Stands, rest_refs, frame_refs}
use Rattle.law_machine.proofs.lemmas.Local.Fine.{quiet}

-- ---- outcomes of the parts of a step

module _ (image : Image) (T : Typings) (m : Machine) (t : ℕ) (thread : Thread) (x : At) where
  -- where words are lacking the address stays
  pub room_then : {A : Type 0} (o : Option A) (go : A → Did Left) → ThrowStays m t x → ((y : A) → o ≡ Some y → DidFine image T m t thread x (go y)) → DidFine image T m t thread x (where_room o go)
  room_then None go h n = h
  room_then (Some y) go h n = n y refl

  pub true_then : (b : Bool) (named : Named) (go : Did Left) → ThrowFine m t x → (b ≡ true → DidFine image T m t thread x go) → DidFine image T m t thread x (where_true b named go)
  true_then true named go h n = n refl
  true_then false named go h n = h

-- ---- what is left

module _ (image : Image) (T : Typings) (m : Machine) (t : ℕ) (thread : Thread) (own : Method) (f : Frame) (rest : List Level) (x : At) (s : RegState) (h : Stands image T m t thread own f rest x s) (apart : (c : Call) (ks : List ℕ) (g : Method) → x.op ≡ Invoke c ks g → ⊥) where
  pub no_wait : wait_of m.shared.monitors t ≡ None
  no_wait = entry_none t m.shared.monitors.waits (λ k d l. quiet image T m t thread own f rest x s h (λ o w. apart w.call w.args w.callee w.is_invoke) _ (h.may.typed.monitors.waits k d l))

  module _ (on : goes_on x.op ≡ true) where
    leads : (st : RegState) → out image own f.at x.op s ≡ st → Leads image (T f.method.0) st x.next
    leads st e = subst (λ z. Leads image (T f.method.0) z x.next) e (All-head (Leads image (T f.method.0) (out image own f.at x.op s)) x.next (jumps x.op) (subst (λ ns. All (Leads image (T f.method.0) (out image own f.at x.op s)) ns) (ap (λ (b : Bool). elim b as (λ w. List ℕ) [ true ↦ x.next ∷ jumps x.op | false ↦ jumps x.op ]) on) h.flows))

    module _ (after : Heap) (g : KeepsKinds m.shared.heap after) (fine : HeapFine image after) where
      pub grown_good : IsGood image after (own_of image (this_above image rest) own) f.regs s.regs
      grown_good = good_grown image m.shared.heap after g (own_of image (this_above image rest) own) f.regs s.regs h.conform.good

      grown_refs : RefsFine image after (level.Code f)
      grown_refs = refs_grown image m.shared.heap after g (level.Code f) (frame_refs image T m t thread own f rest x s h)

      pub heap_left : (ys : List Value) (p : Pending) (ts : Types) (r : PendingType) → out image own f.at x.op s ≡ record { regs = ts; result = r; caught = None; this_pending = s.this_pending } → length ys ≡ length f.regs → IsGood image after (own_of image (this_above image rest) own) ys ts → ResultConforms image after (own_of image (this_above image rest) own) p r → All (RefFine image after) ys → ResultFine image after p → LeftFine image T m t thread (record { levels = level.Code (record { method = f.method; at = x.next; regs = ys; result = p; caught = None; this_pending = f.this_pending }) ∷ rest; shared = with_heap m.shared after; started = None })
      heap_left ys p ts r e n good result refs pending =
          let living = living_fine image T m t thread (level.Code f ∷ rest) h.may.typed h.has_thread h.living h.levels in
          let code = living.1.0 in
          let l = leads (record { regs = ts; result = r; caught = None; this_pending = s.this_pending }) e in
          record {
            keeps = g;
            levels = (
              lowest_top (level.Code f) (record { method = f.method; at = x.next; regs = ys; result = p; caught = None; this_pending = f.this_pending }) rest living.0,
              (
                record { frame = record { code = code.frame.code; has_code = code.frame.has_code; registers = n ∙ code.frame.registers }; below = code.below },
                record { method = own; has_method = h.has_own; state = l.state; has_state = l.has_state; conform = frame_up image h.may.accepted.order after (own_of image (this_above image rest) own) _ (record { regs = ts; result = r; caught = None; this_pending = s.this_pending }) l.state l.below (record { good = good; result = result; caught = tt; this_pending = h.conform.this_pending }) },
                tt,
                stack_grown image m.shared.heap after g T t rest h.rest_fine,
              ),
            );
            refs = All-cons (RefsFine image after) (level.Code (record { method = f.method; at = x.next; regs = ys; result = p; caught = None; this_pending = f.this_pending })) rest (refs, pending, tt) (all_refs_grown image m.shared.heap after g rest (rest_refs image T m t thread own f rest x s h));
            heap = fine;
            class_states = h.may.typed.class_states;
            monitors = quiet_moved image m.threads t thread _ [] m.shared (with_heap m.shared after) m.steps (suc m.steps) g refl (omega arith) h.has_thread h.may.typed.refs no_wait h.may.typed.monitors;
            in_progress = records_after m.threads t thread _ None h.has_thread m.shared.classes m.shared.classes h.may.typed.in_progress (records_of image T m t thread (level.Code f ∷ rest) h.may.typed h.has_thread h.levels) (λ u c d. refl) (λ y q. nothing ((c : ℕ) → records c y.levels ≡ 0) y q);
            started = λ y q. nothing _ y q;
          }

      -- one register takes a value
      pub put_left : (a : ℕ) (y : Value) (u : RegType) → out image own f.at x.op s ≡ going s (write_type s.regs a u) → IsFrom image after (own_of image (this_above image rest) own) f.regs s.regs y u → RefFine image after y → LeftFine image T m t thread (record { levels = level.Code (record { method = f.method; at = x.next; regs = slice_set f.regs a y; result = pending.None; caught = None; this_pending = f.this_pending }) ∷ rest; shared = with_heap m.shared after; started = None })
      put_left a y u e from ref = heap_left (slice_set f.regs a y) pending.None (write_type s.regs a u) pend.None e (length-set f.regs a y) (write_keeps image after (own_of image (this_above image rest) own) f.regs s.regs a y u grown_good from) tt (All-set (RefFine image after) f.regs a y ref grown_refs.0) tt

      -- two take a long
      pub put_long_left : (a lo hi : ℕ) → out image own f.at x.op s ≡ going s (write_long s.regs a) → LeftFine image T m t thread (record { levels = level.Code (record { method = f.method; at = x.next; regs = slice_set (slice_set f.regs a (v.Lo lo)) (suc a) (v.Hi hi); result = pending.None; caught = None; this_pending = f.this_pending }) ∷ rest; shared = with_heap m.shared after; started = None })
      put_long_left a lo hi e = heap_left (slice_set (slice_set f.regs a (v.Lo lo)) (suc a) (v.Hi hi)) pending.None (write_long s.regs a) pend.None e (length-set (slice_set f.regs a (v.Lo lo)) (suc a) (v.Hi hi) ∙ length-set f.regs a (v.Lo lo)) (long_write_keeps image after (own_of image (this_above image rest) own) f.regs s.regs a lo hi grown_good) tt (All-set (RefFine image after) (slice_set f.regs a (v.Lo lo)) (suc a) (v.Hi hi) tt (All-set (RefFine image after) f.regs a (v.Lo lo) tt grown_refs.0)) tt

      -- no register changes
      pub gone_left : out image own f.at x.op s ≡ going s s.regs → LeftFine image T m t thread (record { levels = level.Code (record { method = f.method; at = x.next; regs = f.regs; result = pending.None; caught = None; this_pending = f.this_pending }) ∷ rest; shared = with_heap m.shared after; started = None })
      gone_left e = heap_left f.regs pending.None s.regs pend.None e refl grown_good tt grown_refs.0 tt

      -- a result is pending
      pub result_left : (p : Pending) (r : PendingType) → out image own f.at x.op s ≡ with_pending s r → ResultConforms image after (own_of image (this_above image rest) own) p r → ResultFine image after p → LeftFine image T m t thread (record { levels = level.Code (record { method = f.method; at = x.next; regs = f.regs; result = p; caught = None; this_pending = f.this_pending }) ∷ rest; shared = with_heap m.shared after; started = None })
      result_left p r e c q = heap_left f.regs p s.regs r e refl grown_good c grown_refs.0 q
