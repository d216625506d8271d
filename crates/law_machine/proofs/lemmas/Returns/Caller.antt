-- The caller's frame is in order after a return.
use Rattle.std.proofs.Common.{◌≡◌, ℕ, List, [], ◌∷◌, true, Option, Some, None, sym, ap, ◌∙◌, subst}
use Rattle.std.specs.Prelude.{All, if◌then◌else◌}
use Rattle.std.proofs.lemmas.List.Elements.{All-cons, All-head, All-tail}
use Rattle.std.proofs.lemmas.Option.{same_Some}
use Rattle.dv_defs.specs.declared.names.Ty.{Ty}
use Rattle.dv_defs.specs.declared.names.Proto.{Proto}
use Rattle.dv_defs.specs.Images.{Image}
use Rattle.dv_machine.specs.Value.{Value}
use Rattle.dv_machine.specs.Pending.{Pending}
use Rattle.dv_machine.specs.Frame.{Frame}
use Rattle.dv_machine.specs.Level.{Level}
use Rattle.dv_machine.specs.Level as level
use Rattle.dv_typing.specs.declared.typing.RegType.{RegType}
use Rattle.dv_typing.specs.declared.typing.RegState.{RegState}
use Rattle.dv_defs.specs.Parts.{Call}
use Rattle.dv_defs.specs.Pools.{Method, method_at, is_constructor}
use Rattle.dv_defs.specs.Op.{Op, Invoke, code_at}
use Rattle.dv_typing.specs.Statics.{At}
use Rattle.dv_typing.specs.RegTypes.{type_at}
use Rattle.dv_typing.specs.Demands.{demands, receiver_for}
use Rattle.dv_typing.specs.Transfer.{out, pending_of}
use Rattle.dv_typing.specs.Flow.{Leads, targets}
use Rattle.dv_machine.specs.Heap.{Heap}
use Rattle.dv_machine.specs.State.{Thread, Machine, reg_at}
use Rattle.dv_machine.specs.Calls.{object_of, receiver_of, returned}
use Rattle.dv_machine.specs.Conforming.{Conform, Conforms, ResultFine, RefsFine, ResultConforms}
use Rattle.dv_machine.specs.WellTyped.{Typings, own_of, this_above, BelowCode, IsPlaced, IsCalled, CodeFine, StackFine, records}
use Rattle.law_machine.specs.Premises.{LeftFine}
use Rattle.law_machine.specs.Returning.{IsBuilt, IsBack}
use Rattle.law_machine.proofs.lemmas.Common.Conformity.{frame_up}
use Rattle.law_machine.proofs.lemmas.Calls.Resolved.{is_named}
use Rattle.law_machine.proofs.lemmas.Local.Still.{still, same_shared, IsQuiet}
use Rattle.law_machine.proofs.lemmas.Local.Stands.{Stands, rest_refs, rest_lowest, same_lowest}
use Rattle.law_machine.proofs.lemmas.Returns.Constructed.{returned_conforms, receiver_demanded, no_receiver, not_static}
use Rattle.law_machine.proofs.lemmas.Returns.Built.{IsVerified, is_verified, IsProperAt, invoke_named, this_proper, built, receiver_there}
use Rattle.law_machine.proofs.lemmas.Returns.Shape.{returned_method, returned_at, returned_count, IsObjectThere, object_there, returned_refs}

-- what a return hands to whatever frame it goes to
pub record IsResult (image : Image) (heap : Heap) (ret : Option Ty) (p : Pending) : Type 0 where
  pub conforms : (this : Option ℕ) (m : Method) → ResultConforms image heap (own_of image this m) p (pending_of ret)
  pub fine : ResultFine image heap p

module _ (image : Image) (T : Typings) (m : Machine) (t : ℕ) (thread : Thread) (own : Method) (f : Frame) (rest : List Level) (x : At) (s : RegState) (h : Stands image T m t thread own f rest x s) where
  abbrev heap : Heap
  heap = m.shared.heap

  module _ (g : Frame) (ls : List Level) (is : rest ≡ level.Code g ∷ ls) (p : Pending) (r : IsResult image heap own.def.proto.ret p) where
    stack : StackFine image T heap t None (level.Code g ∷ ls)
    stack = subst (StackFine image T heap t None) is h.rest_fine

    pub called : IsCalled image own g
    called = (subst (BelowCode image own) is h.below).0

    caller : IsPlaced image T heap (this_above image ls) g
    caller = stack.1

    verified : IsVerified image T caller.method g called.at caller.state
    verified = is_verified image T h.may.accepted heap (this_above image ls) g caller called.at called.has_at

    callee_there : (n : ℕ) × (method_at image n ≡ Some called.callee)
    callee_there = invoke_named image T h.may.accepted heap called.at.op called.call called.args called.callee (is_named image g.method.0 g.at called.at called.has_at) called.is_invoke

    -- of the receiver of a constructor that returned
    module _ (P : Value → Type 0) (each : (y : Value) (u : RegType) → Conforms image heap (own_of image (this_above image ls) caller.method) y u → receiver_for image caller.method called.callee u ≡ None → is_constructor called.callee ≡ true → P y) where
      of_receiver : (op : Op) (ks : List ℕ) → op ≡ Invoke called.call ks called.callee → demands image caller.method op caller.state ≡ None → is_constructor called.callee ≡ true → (k : ℕ) → receiver_of op ≡ Some k → P (reg_at g.regs k)
      of_receiver op [] i d e k q = absurd (no_receiver image caller.method caller.state called.call called.callee e (subst (λ z. demands image caller.method z caller.state ≡ None) i d))
      of_receiver op (j ∷ js) i d e k q =
          let there : receiver_of (Invoke called.call (j ∷ js) called.callee) ≡ Some j = ap (λ z. (if z then None else Some j)) (not_static called.callee e) in
          let same : j ≡ k = same_Some j k (sym there ∙ ap receiver_of (sym i) ∙ q) in
          subst (λ z. P (reg_at g.regs z)) same
          (each (reg_at g.regs j) (type_at caller.state.regs j) (caller.conform.good.regs j)
          (receiver_demanded image caller.method caller.state called.call j js called.callee e (subst (λ z. demands image caller.method z caller.state ≡ None) i d)) e)

    below_proper : (o : ℕ) → this_above image ls ≡ Some o → IsProperAt image heap o
    below_proper = this_proper image T h.may.accepted heap t ls stack.3

    receiver_built : is_constructor called.callee ≡ true → (k : ℕ) → receiver_of called.at.op ≡ Some k → IsBuilt image heap caller.method (reg_at g.regs k)
    receiver_built = of_receiver (IsBuilt image heap caller.method)
        (λ y u c q e. built image T h.may.accepted heap (this_above image ls) caller.method callee_there.0 called.callee callee_there.1 e below_proper y u c q)
        called.at.op called.args called.is_invoke verified.demand

    receiver_is_there : is_constructor called.callee ≡ true → (k : ℕ) → receiver_of called.at.op ≡ Some k → IsObjectThere image heap (object_of (reg_at g.regs k))
    receiver_is_there = of_receiver (λ y. IsObjectThere image heap (object_of y))
        (λ y u c q e. object_there image heap (object_of y) (λ o f. receiver_there image T h.may.accepted heap (this_above image ls) caller.method callee_there.0 called.callee callee_there.1 e below_proper y u c q o f))
        called.at.op called.args called.is_invoke verified.demand

    is_back : IsBack image heap (this_above image ls) caller.method g caller.state called.at p
    is_back = record {
      conform = caller.conform;
      call = called.call;
      args = called.args;
      callee = called.callee;
      is_invoke = called.is_invoke;
      demand = verified.demand;
      result = subst (λ (z : Proto). ResultConforms image heap (own_of image (this_above image ls) caller.method) p (pending_of z.ret)) called.same_proto (r.conforms (this_above image ls) caller.method);
      built = receiver_built;
    }

    abbrev pub after : Frame
    after = returned (is_constructor own) g called.at p

    -- an invoke leads on alone
    invoke_leads : (op : Op) (n : ℕ) (c : Call) (ks : List ℕ) (k : Method) (st : RegState) → op ≡ Invoke c ks k → All (Leads image (T g.method.0) st) (targets (record { op = op; next = n })) → Leads image (T g.method.0) st n
    invoke_leads op n c ks k st e a = All-head (Leads image (T g.method.0) st) n [] (subst (λ z. All (Leads image (T g.method.0) st) (targets (record { op = z; next = n }))) e a)

    leads : Leads image (T g.method.0) (out image caller.method g.at called.at.op caller.state) called.at.next
    leads = invoke_leads called.at.op called.at.next called.call called.args called.callee _ called.is_invoke verified.flows

    conforms : Conform image heap (own_of image (this_above image ls) caller.method) after (out image caller.method g.at called.at.op caller.state)
    unfolding called is_back
    conforms = subst (λ b. Conform image heap (own_of image (this_above image ls) caller.method) (returned b g called.at p) (out image caller.method g.at called.at.op caller.state)) (sym called.same_sort) (returned_conforms image heap (this_above image ls) caller.method g caller.state called.at p is_back)

    after_placed : IsPlaced image T heap (this_above image ls) after
    after_placed = record {
      method = caller.method;
      has_method = ap (λ z. method_at image z.0) (returned_method (is_constructor own) g called.at p) ∙ caller.has_method;
      state = leads.state;
      has_state = ap (λ z. T z.0 after.at) (returned_method (is_constructor own) g called.at p) ∙ ap (T g.method.0) (returned_at (is_constructor own) g called.at p) ∙ leads.has_state;
      conform = frame_up image h.may.accepted.order heap (own_of image (this_above image ls) caller.method) after _ leads.state leads.below conforms;
    }

    after_code : CodeFine image T heap after ls
    after_code = record {
      frame = record {
        code = stack.0.frame.code;
        has_code = ap (λ z. code_at image z.0) (returned_method (is_constructor own) g called.at p) ∙ stack.0.frame.has_code;
        registers = returned_count (is_constructor own) g called.at p ∙ stack.0.frame.registers;
      };
      below = stack.0.below;
    }

    -- ---- references

    after_refs : RefsFine image heap (level.Code g) → RefsFine image heap (level.Code after)
    after_refs k = returned_refs image heap (is_constructor own) g called.at p (λ e. receiver_is_there (sym called.same_sort ∙ e)) k.0 r.fine

    pub caller_left : IsQuiet image m t → LeftFine image T m t thread (same_shared image T m t thread h.has_thread (level.Code after ∷ ls))
    caller_left q =
        let refs = subst (All (RefsFine image heap)) is (rest_refs image T m t thread own f rest x s h) in
        still image T m t thread h.has_thread (level.Code after ∷ ls) h.may.typed q
        (same_lowest g after ls (rest_lowest image T m t thread own f rest x s h (level.Code g) ls is), (after_code, after_placed, tt, stack.3))
        (All-cons (RefsFine image heap) (level.Code after) ls (after_refs (All-head (RefsFine image heap) (level.Code g) ls refs)) (All-tail (RefsFine image heap) (level.Code g) ls refs))
        (λ c. ap (records c) (sym is) ∙ ap (records c) (sym h.levels))
