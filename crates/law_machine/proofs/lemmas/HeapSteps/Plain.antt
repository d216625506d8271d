-- Divisions, constants, casts, new objects and throws are fine.
use Rattle.std.proofs.Common.{◌≡◌, ◌≢◌, ◌⊎◌, inl, inr, ℕ, zero, suc, List, Bool, true, false, ◌||◌, not, Option, Some, None, refl, sym, ap, ◌∙◌, subst, arith}
use Rattle.std.specs.Prelude.{ℤ, pos, negsuc, slice_set, map, nat_eq, All}
use Rattle.std.proofs.lemmas.Bool.{or_left, or_cases, eqb-true}
use Rattle.std.proofs.lemmas.List.{length-set, set-get_or}
use Rattle.std.proofs.lemmas.List.Elements.{All-set}
use Rattle.std.proofs.lemmas.Option.{same_Some}
use Rattle.dv_defs.specs.declared.names.Ty.{Ty}
use Rattle.dv_defs.specs.Images.{Image}
use Rattle.dv_machine.specs.Value.{Value}
use Rattle.dv_machine.specs.Value as v
use Rattle.dv_defs.specs.declared.run.Named.TheVariants as named
use Rattle.dv_machine.specs.Kind.{Kind}
use Rattle.dv_machine.specs.Kind as kind
use Rattle.dv_machine.specs.Pending as pending
use Rattle.dv_machine.specs.Frame.{Frame}
use Rattle.dv_machine.specs.Level.{Level}
use Rattle.dv_machine.specs.Level as level
use Rattle.dv_typing.specs.declared.typing.RegType.{RegType}
use Rattle.dv_typing.specs.declared.typing.RegType.TheVariants as ty
use Rattle.dv_typing.specs.declared.typing.PendingType.TheVariants as pend
use Rattle.dv_typing.specs.declared.typing.RegState.{RegState}
use Rattle.dv_defs.specs.Parts.{Call, Bin}
use Rattle.dv_defs.specs.Names.{string_name, class_name, throwable_name}
use Rattle.dv_defs.specs.Types.{of_class, is_array, is_reference}
use Rattle.dv_defs.specs.Pools.{Method}
use Rattle.dv_defs.specs.Order.{instance}
use Rattle.dv_defs.specs.Numbers.{operate32, operate64, lo_of, hi_of}
use Rattle.dv_defs.specs.Op.{Op, Arg, Code, IntDivide, LongDivide, ConstString, ConstClass, Cast, InstanceOf, ArrayLength, New, NewArray, Throw, Invoke, can_throw}
use Rattle.dv_typing.specs.Statics.{At, fetch, op_rules}
use Rattle.dv_typing.specs.RegTypes.{type_at}
use Rattle.dv_typing.specs.Demands.{goes_on, demands, made_by, made_at, any_type, int, arg_int, long}
use Rattle.dv_typing.specs.Transfer.{out, going, write_type, replaced}
use Rattle.dv_typing.specs.Flow.{is_exit}
use Rattle.dv_machine.specs.Heap.{Heap, Got, kind_of, kind_type, newest, alloc_object, alloc_array, intern, class_object, length_of}
use Rattle.dv_machine.specs.State.{Thread, Machine, ThrowsRef, reading, where_ref, reg_at, truth, type_of, where_true, read_any, tested, any_kind, onward, type_of_kind}
use Rattle.dv_machine.specs.Mem.{mem, on_object, is_zero_number, is_instance, put_object, got, new_array}
use Rattle.dv_machine.specs.Step.{here}
use Rattle.dv_machine.specs.Calls.{object_of}
use Rattle.dv_machine.specs.Conforming.{Own, IsThere, IsOf, Fits, Conforms, IsUninit, IsGood, RefFine}
use Rattle.dv_machine.specs.WellTyped.{Typings, own_of, this_above, HeapFine}
use Rattle.law_machine.specs.Premises.{KeepsKinds, ThrowFine, ThrowStays, DidFine, HoldsOf}
use Rattle.law_machine.specs.StepLaws.{IsAdded}
use Rattle.law_machine.specs.Reading.{Anything, IsArrayOrNull}
use Rattle.law_types.proofs.Facts.{nothing}
use Rattle.law_machine.proofs.lemmas.Common.Facts.{fits_of}
use Rattle.law_machine.proofs.lemmas.Heap.Added.{object_is_added, array_is_added}
use Rattle.law_machine.proofs.lemmas.Heap.Interned.{string_is_interned, class_object_is_got}
use Rattle.law_machine.proofs.lemmas.HeapSteps.Left.{room_then, true_then, no_wait, grown_good, heap_left, put_left, put_long_left}
use Rattle.law_machine.proofs.lemmas.Opening.Heap.{same_fits}
use Rattle.law_machine.proofs.lemmas.Exceptions.Rises.{object_there}
use Rattle.law_machine.proofs.lemmas.Registers.Written.{write_keeps}
use Rattle.law_machine.proofs.lemmas.Registers.Made.{new_instance_keeps}
use Rattle.law_machine.proofs.lemmas.Local.Stands.{Stands, frame_refs, read_then}
use Rattle.law_machine.proofs.lemmas.Growth.Kinds.{refs_grown}
use Rattle.law_machine.proofs.lemmas.Readers.Plain.{reads_int, reads_argument, reads_long, reads_reference, reads_reference_to}
use Rattle.law_machine.proofs.lemmas.Readers.Arrays.{reads_array, tests_go_down}
use Rattle.law_types.proofs.Demanded.{first_none, only_rule}
use Rattle.law_types.proofs.Interfaces.{instance_reference}
use Rattle.law_flow.proofs.Statics.{KeepsRules}
use Rattle.dv_defs.specs.declared.faults.Rule.TheVariants as rule

-- the object of an uninitialised value is there
held_there : (image : Image) (heap : Heap) (own : Own) (y : Value) (u : RegType) (o : ℕ) → IsUninit u → Conforms image heap own y u → object_of y ≡ Some o → (k : Kind) × (kind_of heap o ≡ Some k)
held_there image heap own (v.Uninit a p) (ty.Uninit b) o i c e = (kind.Object (record { 0 = c.1.class }), subst (λ (q : ℕ). kind_of heap q ≡ Some (kind.Object (record { 0 = c.1.class }))) (same_Some p o e) c.1.has_kind)
held_there image heap own (v.UninitThis p) ty.UninitThis o i c e = (kind.Object (record { 0 = c.class }), subst (λ (q : ℕ). kind_of heap q ≡ Some (kind.Object (record { 0 = c.class }))) (same_Some p o e) c.has_kind)
held_there image heap own y (ty.Uninit b) o i c e = absurd c
held_there image heap own y ty.UninitThis o i c e = absurd c
held_there image heap own y u o i c e = absurd i

module _ (image : Image) (T : Typings) (m : Machine) (t : ℕ) (thread : Thread) (own : Method) (f : Frame) (rest : List Level) (x : At) (s : RegState) (h : Stands image T m t thread own f rest x s) (code : Code) (rules : KeepsRules image code x.op) (apart : (c : Call) (ks : List ℕ) (g : Method) → x.op ≡ Invoke c ks g → ⊥) where
  pub demand_of : (op : Op) → x.op ≡ op → demands image own op s ≡ None
  demand_of op e = sym (ap (λ z. demands image own z s) e) ∙ h.demand

  pub out_of : (op : Op) → x.op ≡ op → out image own f.at x.op s ≡ out image own f.at op s
  out_of op e = ap (λ z. out image own f.at z s) e

  pub throws : (op : Op) → x.op ≡ op → can_throw op ≡ true → ThrowFine m t x
  throws op e c = record { can = ap can_throw e ∙ c; apart = no_wait image T m t thread own f rest x s h apart }

  -- the same where it is no monitor-exit
  pub stops : (op : Op) → x.op ≡ op → can_throw op ≡ true → is_exit op ≡ false → ThrowStays m t x
  stops op e c n = (throws op e c, ap is_exit e ∙ n)

  -- the heap stays as it is
  pub same_heap : KeepsKinds m.shared.heap m.shared.heap
  same_heap o k e = e

  number_left : (op : Op) (a : ℕ) (n : ℤ) → x.op ≡ op → goes_on op ≡ true → out image own f.at op s ≡ going s (write_type s.regs a ty.Int) → DidFine image T m t thread x (onward (here image m t own f rest x.next) m.shared (record { method = f.method; at = x.next; regs = slice_set f.regs a (v.Num n); result = pending.None; caught = None; this_pending = f.this_pending }))
  number_left op a n e g o = put_left image T m t thread own f rest x s h apart (ap goes_on e ∙ g) m.shared.heap same_heap h.may.typed.heap a (v.Num n) ty.Int (out_of op e ∙ o) (inr (λ u. u, tt)) tt

  pub divide_int : (o : Bin) (a b : ℕ) (c : Arg) → x.op ≡ IntDivide o a b c → DidFine image T m t thread x (mem (here image m t own f rest x.next) (IntDivide o a b c))
  divide_int o a b c e =
      let d = first_none (int s.regs b) (arg_int s.regs c) (demand_of (IntDivide o a b c) e) in
      read_then image T m t thread x Anything _ _ (reads_int image m.shared.heap (own_of image (this_above image rest) own) f.regs s.regs b h.conform.good.regs d.0)
      (λ y p. read_then image T m t thread x Anything _ _ (reads_argument image m.shared.heap (own_of image (this_above image rest) own) f.regs s.regs c h.conform.good.regs d.1)
      (λ z q. true_then image T m t thread x (not (is_zero_number z)) named.Arithmetic _ (throws (IntDivide o a b c) e refl) (λ w. number_left (IntDivide o a b c) a (operate32 o y z) e refl refl)))

  pub divide_long : (o : Bin) (a b c : ℕ) → x.op ≡ LongDivide o a b c → DidFine image T m t thread x (mem (here image m t own f rest x.next) (LongDivide o a b c))
  divide_long o a b c e =
      let d = first_none (long s.regs b) (long s.regs c) (demand_of (LongDivide o a b c) e) in
      read_then image T m t thread x Anything _ _ (reads_long image m.shared.heap (own_of image (this_above image rest) own) f.regs s.regs b h.conform.good.regs d.0)
      (λ y p. read_then image T m t thread x Anything _ _ (reads_long image m.shared.heap (own_of image (this_above image rest) own) f.regs s.regs c h.conform.good.regs d.1)
      (λ z q. true_then image T m t thread x (not (is_zero_number z)) named.Arithmetic _ (throws (LongDivide o a b c) e refl) (λ w. put_long_left image T m t thread own f rest x s h apart (ap goes_on e) m.shared.heap same_heap h.may.typed.heap a (lo_of (operate64 o y z)) (hi_of (operate64 o y z)) (out_of (LongDivide o a b c) e))))

  -- ---- constants

  grown_regs : (after : Heap) → KeepsKinds m.shared.heap after → All (RefFine image after) f.regs
  grown_regs after g = (refs_grown image m.shared.heap after g (level.Code f) (frame_refs image T m t thread own f rest x s h)).0

  -- a reference to an object of a grown heap
  reference_left : (op : Op) (a : ℕ) (after : Heap) (o : ℕ) (u : Ty) → x.op ≡ op → goes_on op ≡ true → out image own f.at op s ≡ going s (write_type s.regs a (ty.Class u)) → KeepsKinds m.shared.heap after → HeapFine image after → IsOf image after o u → DidFine image T m t thread x (onward (here image m t own f rest x.next) (record { heap = after; classes = m.shared.classes; monitors = m.shared.monitors; output = m.shared.output }) (record { method = f.method; at = x.next; regs = slice_set f.regs a (v.Ref o); result = pending.None; caught = None; this_pending = f.this_pending }))
  reference_left op a after o u e g w keeps fine i = put_left image T m t thread own f rest x s h apart (ap goes_on e ∙ g) after keeps fine a (v.Ref o) (ty.Class u) (out_of op e ∙ w) (inr (λ z. z, fits_of image after o u i)) (object_there image after o i.object)

  string_of : (heap : Heap) (o : ℕ) (cs : List ℕ) → kind_of heap o ≡ Some (kind.Str cs) → IsOf image heap o (of_class string_name)
  string_of heap o cs e = record { object = record { kind = kind.Str cs; has_kind = e; proper = refl }; fits = same_fits image T h.may.accepted (of_class string_name) refl }

  class_of : (heap : Heap) (o : ℕ) (u : Ty) → kind_of heap o ≡ Some (kind.ClassOf u) → IsOf image heap o (of_class class_name)
  class_of heap o u e = record { object = record { kind = kind.ClassOf u; has_kind = e; proper = refl }; fits = same_fits image T h.may.accepted (of_class class_name) refl }

  -- what was there is there, or one object was added
  kept_or_added : (after : Heap) (o : ℕ) (k : Kind) → (after ≡ m.shared.heap) ⊎ IsAdded image m.shared.heap after o k → HeapFine image after × KeepsKinds m.shared.heap after
  kept_or_added after o k (inl e) = (subst (HeapFine image) (sym e) h.may.typed.heap, λ q y z. subst (λ (p : Heap). kind_of p q ≡ Some y) (sym e) z)
  kept_or_added after o k (inr a) = (a.fine, a.keeps)

  pub const_string : (a : ℕ) (cs : List ℕ) → x.op ≡ ConstString a cs → DidFine image T m t thread x (mem (here image m t own f rest x.next) (ConstString a cs))
  const_string a cs e = room_then image T m t thread x (intern m.shared.heap cs) _ (stops (ConstString a cs) e refl refl) (λ g q. go g (string_is_interned image m.shared.heap cs g h.may.typed.heap q))
    where
      go : (g : Got) → (kind_of g.heap g.object ≡ Some (kind.Str cs)) × ((g.heap ≡ m.shared.heap) ⊎ IsAdded image m.shared.heap g.heap g.object (kind.Str cs)) → DidFine image T m t thread x (put_object (here image m t own f rest x.next) a v.Ref g)
      go g r = let k = kept_or_added g.heap g.object (kind.Str cs) r.1 in reference_left (ConstString a cs) a g.heap g.object (of_class string_name) e refl refl k.1 k.0 (string_of g.heap g.object cs r.0)

  pub const_class : (a : ℕ) (u : Ty) → x.op ≡ ConstClass a u → DidFine image T m t thread x (mem (here image m t own f rest x.next) (ConstClass a u))
  const_class a u e = room_then image T m t thread x (class_object m.shared.heap u) _ (stops (ConstClass a u) e refl refl) (λ g q. go g (class_object_is_got image m.shared.heap u g h.may.typed.heap q))
    where
      go : (g : Got) → (kind_of g.heap g.object ≡ Some (kind.ClassOf u)) × ((g.heap ≡ m.shared.heap) ⊎ IsAdded image m.shared.heap g.heap g.object (kind.ClassOf u)) → DidFine image T m t thread x (put_object (here image m t own f rest x.next) a v.Ref g)
      go g r = let k = kept_or_added g.heap g.object (kind.ClassOf u) r.1 in reference_left (ConstClass a u) a g.heap g.object (of_class class_name) e refl refl k.1 k.0 (class_of g.heap g.object u r.0)

  -- ---- arrays and objects that are made

  array_reference : (u : Ty) → is_array u ≡ true → is_reference u ≡ true
  array_reference u e = or_left (is_array u) _ e

  pub array_of : (heap : Heap) (o : ℕ) (u : Ty) → is_array u ≡ true → kind_of heap o ≡ Some (kind.Array u) → IsOf image heap o u
  array_of heap o u a e = record { object = record { kind = kind.Array u; has_kind = e; proper = a }; fits = same_fits image T h.may.accepted u (array_reference u a) }

  pub new_array_fine : (a b : ℕ) (u : Ty) → x.op ≡ NewArray a b u → DidFine image T m t thread x (mem (here image m t own f rest x.next) (NewArray a b u))
  new_array_fine a b u e = read_then image T m t thread x Anything _ _ (reads_int image m.shared.heap (own_of image (this_above image rest) own) f.regs s.regs b h.conform.good.regs (demand_of (NewArray a b u) e)) (λ n p. sized n)
    where
      array : is_array u ≡ true
      array = only_rule (is_array u) (rule.S 16) (sym (ap (op_rules image code rules.0) e) ∙ rules.1)

      sized : (n : ℤ) → DidFine image T m t thread x (new_array (here image m t own f rest x.next) a u n)
      sized (negsuc n) = throws (NewArray a b u) e refl
      sized (pos n) = room_then image T m t thread x (alloc_array m.shared.heap u n) _ (stops (NewArray a b u) e refl refl) (λ after q. let r = array_is_added image m.shared.heap after u n h.may.typed.heap q in reference_left (NewArray a b u) a after (newest after) u e refl refl r.0.keeps r.0.fine (array_of after (newest after) u array r.0.made))

  pub new_fine : (a c : ℕ) → x.op ≡ New a c → DidFine image T m t thread x (mem (here image m t own f rest x.next) (New a c))
  new_fine a c e = room_then image T m t thread x (alloc_object image m.shared.heap c) _ (stops (New a c) e refl refl) (λ after q. go after (object_is_added image m.shared.heap after c h.may.typed.heap q))
    where
      made : made_at image own f.at ≡ Some c
      made =
          let id = h.may.accepted.finds.methods f.method.0 own h.has_own in
          ap (λ (o : Option At). elim o as (λ z. Option ℕ) [ None ↦ None | Some y ↦ made_by y.op ]) (ap (λ n. fetch image n f.at) id ∙ h.has_at) ∙ ap made_by e

      fresh : (o : ℕ) → kind_of m.shared.heap o ≡ None → (j : ℕ) → IsUninit (type_at s.regs j) → object_of (reg_at f.regs j) ≢ Some o
      fresh o n j i q = let k = held_there image m.shared.heap (own_of image (this_above image rest) own) (reg_at f.regs j) (type_at s.regs j) o i (h.conform.good.regs j) q in nothing ⊥ k.0 (sym n ∙ k.1)

      go : (after : Heap) → IsAdded image m.shared.heap after (newest after) (kind.Object (record { 0 = c })) → DidFine image T m t thread x (put_object (here image m t own f rest x.next) a (v.Uninit f.at) (got after))
      go after r = heap_left image T m t thread own f rest x s h apart (ap goes_on e) after r.keeps r.fine (slice_set f.regs a (v.Uninit f.at (newest after))) pending.None (write_type (map (replaced f.at ty.Conflict) s.regs) a (ty.Uninit f.at)) pend.None (out_of (New a c) e) (length-set f.regs a (v.Uninit f.at (newest after))) (new_instance_keeps image after (own_of image (this_above image rest) own) f.regs s.regs a f.at (newest after) c (grown_good image T m t thread own f rest x s h apart (ap goes_on e) after r.keeps r.fine) made r.made (fresh (newest after) r.fresh)) tt (All-set (RefFine image after) f.regs a (v.Uninit f.at (newest after)) tt (grown_regs after r.keeps)) tt

  -- ---- tests of types

  pub throw_fine : (a : ℕ) → x.op ≡ Throw a → DidFine image T m t thread x (mem (here image m t own f rest x.next) (Throw a))
  throw_fine a e = read_then image T m t thread x (λ o. Fits image m.shared.heap o (of_class throwable_name)) _ _ (reads_reference_to image m.shared.heap (own_of image (this_above image rest) own) f.regs s.regs a (of_class throwable_name) h.may.accepted.order h.conform.good.regs (demand_of (Throw a) e)) go
    where
      go : (o : ℕ) → Fits image m.shared.heap o (of_class throwable_name) → DidFine image T m t thread x (on_object ThrowsRef o)
      go zero i = throws (Throw a) e refl
      go (suc o) i = (throws (Throw a) e refl, ap is_exit e, i)

  pub instance_of : (a b : ℕ) (u : Ty) → x.op ≡ InstanceOf a b u → DidFine image T m t thread x (mem (here image m t own f rest x.next) (InstanceOf a b u))
  instance_of a b u e = read_then image T m t thread x (IsThere image m.shared.heap) _ _ (reads_reference image m.shared.heap (own_of image (this_above image rest) own) f.regs s.regs b h.conform.good.regs (demand_of (InstanceOf a b u) e)) (λ o p. go (is_instance (here image m t own f rest x.next) u o))
    where
      go : (b : Bool) → DidFine image T m t thread x (onward (here image m t own f rest x.next) m.shared (record { method = f.method; at = x.next; regs = slice_set f.regs a (truth b); result = pending.None; caught = None; this_pending = f.this_pending }))
      go true = number_left (InstanceOf a b u) a (pos 1) e refl refl
      go false = number_left (InstanceOf a b u) a (pos 0) e refl refl

  pub array_length : (a b : ℕ) → x.op ≡ ArrayLength a b → DidFine image T m t thread x (mem (here image m t own f rest x.next) (ArrayLength a b))
  array_length a b e = read_then image T m t thread x (IsArrayOrNull image m.shared.heap any_type (type_at s.regs b)) _ _ (reads_array image m.shared.heap (own_of image (this_above image rest) own) f.regs s.regs b any_type h.may.accepted.order (tests_go_down image).any h.conform.good.regs (demand_of (ArrayLength a b) e)) counted
    where
      counted : (o : ℕ) → IsArrayOrNull image m.shared.heap any_type (type_at s.regs b) o → DidFine image T m t thread x (on_object (λ o. onward (here image m t own f rest x.next) m.shared (record { method = f.method; at = x.next; regs = slice_set f.regs a (v.Num (pos (length_of m.shared.heap o))); result = pending.None; caught = None; this_pending = f.this_pending })) o)
      counted zero p = throws (ArrayLength a b) e refl
      counted (suc o) p = number_left (ArrayLength a b) a (pos (length_of m.shared.heap (suc o))) e refl refl

  -- a register keeps its value and has another type
  cast_left : (a : ℕ) (u : Ty) → x.op ≡ Cast a u → Conforms image m.shared.heap (own_of image (this_above image rest) own) (reg_at f.regs a) (ty.Class u) → DidFine image T m t thread x (onward (here image m t own f rest x.next) m.shared (record { method = f.method; at = x.next; regs = f.regs; result = pending.None; caught = None; this_pending = f.this_pending }))
  cast_left a u e c = heap_left image T m t thread own f rest x s h apart (ap goes_on e) m.shared.heap same_heap h.may.typed.heap f.regs pending.None (write_type s.regs a (ty.Class u)) pend.None (out_of (Cast a u) e) refl (subst (λ (ys : List Value). IsGood image m.shared.heap (own_of image (this_above image rest) own) ys (write_type s.regs a (ty.Class u))) (set-get_or f.regs a v.Undef) (write_keeps image m.shared.heap (own_of image (this_above image rest) own) f.regs s.regs a (reg_at f.regs a) (ty.Class u) h.conform.good (inr (λ z. z, c)))) tt (frame_refs image T m t thread own f rest x s h).0 tt

  pub cast_fine : (a : ℕ) (u : Ty) → x.op ≡ Cast a u → DidFine image T m t thread x (mem (here image m t own f rest x.next) (Cast a u))
  cast_fine a u e = go (reg_at f.regs a) refl (reads_reference image m.shared.heap (own_of image (this_above image rest) own) f.regs s.regs a h.conform.good.regs (demand_of (Cast a u) e))
    where
      reference : is_reference u ≡ true
      reference = only_rule (is_reference u) (rule.S 16) (sym (ap (op_rules image code rules.0) e) ∙ rules.1)

      instance_fits : (o : ℕ) → IsThere image m.shared.heap (suc o) → instance image (type_of image m.shared.heap (suc o)) u ≡ true → Fits image m.shared.heap (suc o) u
      instance_fits o i q =
          let same : type_of image m.shared.heap (suc o) ≡ kind_type image i.kind = ap (type_of_kind image) i.has_kind in
          let r = subst (λ (z : Ty). instance image z u ≡ true) same q in
          record { object = i; fits = h.may.accepted.order.instance_fits (kind_type image i.kind) u (instance_reference image (kind_type image i.kind) u r reference) r }

      taken : (o : ℕ) → reg_at f.regs a ≡ v.Ref o → IsThere image m.shared.heap o → DidFine image T m t thread x (where_true (nat_eq o 0 || is_instance (here image m t own f rest x.next) u o) named.ClassCast (onward (here image m t own f rest x.next) m.shared (record { method = f.method; at = x.next; regs = f.regs; result = pending.None; caught = None; this_pending = f.this_pending })))
      taken zero w i = cast_left a u e (subst (λ (y : Value). Conforms image m.shared.heap (own_of image (this_above image rest) own) y (ty.Class u)) (sym w) tt)
      taken (suc o) w i = true_then image T m t thread x (nat_eq (suc o) 0 || is_instance (here image m t own f rest x.next) u (suc o)) named.ClassCast _ (throws (Cast a u) e refl) (λ q. cast_left a u e (subst (λ (y : Value). Conforms image m.shared.heap (own_of image (this_above image rest) own) y (ty.Class u)) (sym w) (instance_fits o i (other (or_cases (nat_eq (suc o) 0) _ q)))))
        where
          other : (nat_eq (suc o) 0 ≡ true) ⊎ (instance image (type_of image m.shared.heap (suc o)) u ≡ true) → instance image (type_of image m.shared.heap (suc o)) u ≡ true
          other (inl z) = absurd (omega (arith, eqb-true (suc o) 0 z))
          other (inr z) = z

      read_ref_value : (o : ℕ) (b : Bool) → reg_at f.regs a ≡ v.Ref o → HoldsOf (IsThere image m.shared.heap) (where_ref b o) → DidFine image T m t thread x (reading (where_ref b o) (λ o. where_true (nat_eq o 0 || is_instance (here image m t own f rest x.next) u o) named.ClassCast (onward (here image m t own f rest x.next) m.shared (record { method = f.method; at = x.next; regs = f.regs; result = pending.None; caught = None; this_pending = f.this_pending }))))
      read_ref_value o true w i = taken o w i
      read_ref_value o false w i = absurd i

      go : (y : Value) → reg_at f.regs a ≡ y → HoldsOf (IsThere image m.shared.heap) (read_any m.shared.heap y) → DidFine image T m t thread x (reading (read_any m.shared.heap y) (λ o. where_true (nat_eq o 0 || is_instance (here image m t own f rest x.next) u o) named.ClassCast (onward (here image m t own f rest x.next) m.shared (record { method = f.method; at = x.next; regs = f.regs; result = pending.None; caught = None; this_pending = f.this_pending }))))
      go v.Zero w i = cast_left a u e (subst (λ (y : Value). Conforms image m.shared.heap (own_of image (this_above image rest) own) y (ty.Class u)) (sym w) tt)
      go (v.Ref o) w i = read_ref_value o (tested any_kind m.shared.heap o) w i
      go y w i = absurd i
