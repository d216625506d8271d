-- Static calls, and calls on an object.
use Rattle.std.proofs.Common.{◌≡◌, ℕ, zero, suc, List, [], ◌∷◌, Bool, true, false, Option, Some, None, refl, sym, ap, ◌∙◌, subst}
use Rattle.std.proofs.lemmas.Option.{none-some, same_Some}
use Rattle.std.proofs.lemmas.Bool.{and_parts, not-true}
use Rattle.std.specs.Prelude.{◌&&◌, ◌||◌, not, bytes_eq, if◌then◌else◌}
use Rattle.dv_defs.specs.declared.names.Proto.{Proto}
use Rattle.dv_defs.specs.declared.names.Ty.{Ty}
use Rattle.dv_defs.specs.Images.{Image}
use Rattle.dv_machine.specs.Value.{Value}
use Rattle.dv_machine.specs.Value as v
use Rattle.dv_defs.specs.declared.run.Named.{Named}
use Rattle.dv_defs.specs.declared.run.Named.TheVariants as named
use Rattle.dv_defs.specs.declared.run.Native.TheVariants as native
use Rattle.dv_machine.specs.Frame.{Frame}
use Rattle.dv_machine.specs.Level.{Level}
use Rattle.dv_typing.specs.declared.typing.RegType.TheVariants as ty
use Rattle.dv_typing.specs.declared.typing.RegState.{RegState}
use Rattle.dv_defs.specs.Parts.{Call}
use Rattle.dv_defs.specs.Names.{clinit_name, init_name}
use Rattle.dv_defs.specs.Pools.{Method, method_at, is_static, is_private, is_abstract, is_constructor, is_interface, own_type}
use Rattle.dv_defs.specs.Op.{Invoke}
use Rattle.dv_typing.specs.Statics.{At, fits_call, names_class, names_super, op_rules}
use Rattle.dv_typing.specs.RegTypes.{all_types, type_at}
use Rattle.dv_typing.specs.Demands.{Demand, demands, first, args_for, invoke_for, instance_call, receiver_for, ref_to, super_for}
use Rattle.dv_typing.specs.Transfer.{arg_types}
use Rattle.dv_machine.specs.Heap.{Heap}
use Rattle.dv_machine.specs.State.{Thread, Machine, Left, Did, reading, reg_at, read_args, read_ref, Here}
use Rattle.dv_machine.specs.Mem.{on_object}
use Rattle.dv_machine.specs.Natives.{object_number, native_step}
use Rattle.dv_machine.specs.Calls.{Landing, Lands, Lacks, unless_abstract, dispatch, native_of, landed, receiver_of, read_super, call_object, call_instance, with_receiver, invoke}
use Rattle.dv_machine.specs.Step.{here}
use Rattle.dv_machine.specs.Conforming.{IsOf, Fits}
use Rattle.dv_machine.specs.WellTyped.{Typings, own_of, this_above}
use Rattle.law_machine.specs.Premises.{DidFine, HoldsOf}
use Rattle.law_machine.specs.Reading.{AreWords}
use Rattle.law_types.proofs.Facts.{no}
use Rattle.law_types.proofs.Demanded.{first_none, first_rule}
use Rattle.law_machine.proofs.lemmas.Calls.Resolved.{is_named}
use Rattle.law_machine.proofs.lemmas.Returns.Built.{invoke_named}
use Rattle.law_machine.proofs.lemmas.Readers.Plain.{reads_reference_to, holds_more}
use Rattle.law_machine.proofs.lemmas.Readers.Words.{IsWord, reads_arguments}
use Rattle.law_machine.proofs.lemmas.Local.Still.{IsQuiet}
use Rattle.law_machine.proofs.lemmas.Local.Stands.{Stands, read_then}
use Rattle.law_machine.proofs.lemmas.Calls.Words.{static_types, instance_types, begins_plain, words_cons, both_hold, read_number, number_is}
use Rattle.law_machine.proofs.lemmas.Calls.Dispatched.{IsLanding, landing_is, named_otherwise, of_instance, same_lands}
use Rattle.law_machine.proofs.lemmas.Calls.Invoked.{receiver_is, no_receiver_of, WaitsAt, quiet_at, throws, NativesDo, landed_fine, called_fine}
use Rattle.dv_defs.specs.declared.faults.Rule.TheVariants as rule
use Rattle.law_machine.proofs.lemmas.Common.Members.{class_of_method}

lands_lacks : (k : Method) (n : Named) → Lands k ≡ Lacks n → ⊥
lands_lacks k n e = cc

first_of_four : (a b c d : Bool) → (a && b && c && d) ≡ true → a ≡ true
first_of_four true b c d f = refl
first_of_four false b c d f = no f

-- a static method is called by invoke-static alone, and is no initialiser
static_call : (image : Image) (own : Method) (r : Option Ty) (c : Call) (g : Method) → is_static g ≡ true → fits_call image own r c g ≡ true → bytes_eq g.def.name clinit_name ≡ false
static_call image own r Call.Static g e f = not-true _ (and_parts (is_static g) (not (bytes_eq g.def.name clinit_name)) f).1
static_call image own r Call.Direct g e f = no (sym (not-true _ (and_parts (not (is_static g)) (is_constructor g || is_private g) f).0) ∙ e)
static_call image own r Call.Virtual g e f = no (sym (not-true _ (first_of_four (not (is_static g)) (not (is_constructor g)) (not (is_private g)) (names_class image r) f)) ∙ e)
static_call image own r Call.Super g e f = no (sym (not-true _ (first_of_four (not (is_static g)) (not (is_constructor g)) (not (is_private g)) (names_super image own.info.class.0 r) f)) ∙ e)
static_call image own r Call.Interface g e f = no (sym (not-true _ (and_parts (not (is_static g)) (not (is_private g)) (and_parts (not (is_static g) && not (is_private g)) (is_interface image g.info.class.0) f).0).0) ∙ e)

module _ (image : Image) (T : Typings) (m : Machine) (t : ℕ) (thread : Thread) (own : Method) (f : Frame) (rest : List Level) (x : At) (s : RegState) (h : Stands image T m t thread own f rest x s) (c : Call) (ks : List ℕ) (g : Method) (e : x.op ≡ Invoke c ks g) where
  abbrev heap : Heap
  heap = m.shared.heap

  abbrev here_it : Here
  here_it = here image m t own f rest x.next

  -- the demand of the invoke
  pub invoke_demand : invoke_for image own s.regs c ks g ≡ None
  invoke_demand = subst (λ z. demands image own z s ≡ None) e h.demand

  -- the invoke is one that its method allows
  allowed : fits_call image own h.rules.0 c g ≡ true
  allowed = subst (λ z. fits_call image z h.rules.0 c g ≡ true) h.of_own (first_rule (fits_call image h.code.method h.rules.0 c g) (rule.S 14) _ (subst (λ z. op_rules image h.code h.rules.0 z ≡ []) e h.rules.1))

  pub callee_number : (n : ℕ) × (method_at image n ≡ Some g)
  callee_number = invoke_named image T h.may.accepted heap x.op c ks g (is_named image f.method.0 f.at x h.has_at) e

  pub callee_there : method_at image g.id ≡ Some g
  callee_there = subst (λ z. method_at image z ≡ Some g) (sym (h.may.accepted.finds.methods callee_number.0 g callee_number.1)) callee_number.1

  -- ---- a static call

  module _ (static : is_static g ≡ true) where
    no_constructor : is_constructor g ≡ false
    no_constructor = ap (λ z. not z && bytes_eq g.def.name init_name) static

    static_quiet : IsQuiet image m t
    static_quiet = quiet_at image T m t thread own f rest x s h c ks g e (λ o w. none-some _ (sym (no_receiver_of c ks g static) ∙ w.has_receiver))

    static_demand : args_for image s.regs g.def.proto.params ks ≡ None
    static_demand = subst (λ z. elim z as (λ w. Demand) [ true ↦ args_for image s.regs g.def.proto.params ks | false ↦ instance_call image own s.regs c ks g ] ≡ None) static invoke_demand

    static_lands : NativesDo image T m t thread own f rest x s h c ks g e → (ys : List Value) → AreWords image heap ys (all_types g.def.proto.params) → DidFine image T m t thread x (landed here_it (native_step here_it) (unless_abstract g) ys)
    static_lands natives ys w = by_test (is_abstract g) refl
      where
        words : AreWords image heap ys (arg_types image g)
        words = subst (AreWords image heap ys) (sym (static_types image g static)) w

        by_test : (b : Bool) → is_abstract g ≡ b → DidFine image T m t thread x (landed here_it (native_step here_it) (if b then Lacks named.AbstractMethod else Lands g) ys)
        by_test true a = throws image T m t thread own f rest x s h c ks g e static_quiet
        by_test false a = landed_fine image T m t thread own f rest x s h c ks g e natives g ys a callee_there
            (λ j i. record { there = callee_there; is_native = i; words = words; same_proto = refl; plain = no_constructor; instance = λ n. no (sym n ∙ static); static = λ q. static })
            (λ q. static_quiet) (sym (begins_plain image g no_constructor)) words
            (called_fine image T m t thread own f rest x s h c ks g e g refl refl (λ q. no (sym no_constructor ∙ q)))
            (named_otherwise image g (static_call image own h.rules.0 c g static allowed))

    pub static_fine : NativesDo image T m t thread own f rest x s h c ks g e → DidFine image T m t thread x (invoke here_it (native_step here_it) c ks g)
    static_fine natives = subst (λ b. DidFine image T m t thread x (elim b as (λ w. Did Left) [ true ↦ reading (read_args image heap f.regs g.def.proto.params ks) (landed here_it (native_step here_it) (unless_abstract g)) | false ↦ with_receiver here_it (native_step here_it) c g ks ])) (sym static)
        (read_then image T m t thread x (λ ys. AreWords image heap ys (all_types g.def.proto.params)) (read_args image heap f.regs g.def.proto.params ks) _
        (reads_arguments image heap (own_of image (this_above image rest) own) f.regs s.regs g.def.proto.params ks h.may.accepted.order h.conform.good.regs static_demand)
        (static_lands natives))

  -- ---- a call on an object

  module _ (k : ℕ) (js : List ℕ) (is : ks ≡ k ∷ js) (static : is_static g ≡ false) (plain : is_constructor g ≡ false) where
    abbrev value : Value
    value = reg_at f.regs k

    instance_demand : first (first (ref_to image s.regs k (own_type image g)) (super_for image own s.regs k c)) (args_for image s.regs g.def.proto.params js) ≡ None
    instance_demand =
        let d = subst (λ z. invoke_for image own s.regs c z g ≡ None) is invoke_demand in
        let i = subst (λ z. elim z as (λ w. Demand) [ true ↦ args_for image s.regs g.def.proto.params (k ∷ js) | false ↦ instance_call image own s.regs c (k ∷ js) g ] ≡ None) static d in
        subst (λ z. first (elim z as (λ w. Demand) [ true ↦ receiver_for image own g (type_at s.regs k) | false ↦ first (ref_to image s.regs k (own_type image g)) (super_for image own s.regs k c) ]) (args_for image s.regs g.def.proto.params js) ≡ None) plain i

    has_receiver : receiver_of (Invoke c ks g) ≡ Some k
    has_receiver = ap (λ z. receiver_of (Invoke c z g)) is ∙ receiver_is c k js g static

    -- a thread that waits here holds an object that lands on wait
    held : (o : ℕ) → (w : WaitsAt image T m t thread own f rest x s h c ks g e o) → value ≡ v.Ref (suc o)
    held o w = ap (reg_at f.regs) (same_Some k w.receiver (sym has_receiver ∙ w.has_receiver)) ∙ w.holds

    quiet_null : object_number value ≡ 0 → IsQuiet image m t
    quiet_null n = quiet_at image T m t thread own f rest x s h c ks g e (λ o w. zero_suc o (sym n ∙ ap object_number (held o w)))
      where
        zero_suc : (o : ℕ) → 0 ≡ suc o → ⊥
        zero_suc o e = cc

    quiet_unless : (o : ℕ) → value ≡ v.Ref (suc o) → ((l : Method) → dispatch image heap own c g (suc o) ≡ Lands l → native_of image l ≡ Some native.Wait → ⊥) → IsQuiet image m t
    quiet_unless o q n = quiet_at image T m t thread own f rest x s h c ks g e (λ p w. n w.landed (ap (dispatch image heap own c g) (same_ref (suc o) (suc p) (sym q ∙ held p w)) ∙ w.lands) w.is_wait)
      where
        same_ref : (a b : ℕ) → v.Ref a ≡ v.Ref b → a ≡ b
        same_ref a b e = cc

    -- the words of the method on which the call lands
    receiver_word : (l : Method) (o : ℕ) → IsOf image heap (suc o) (own_type image l) → IsWord image heap (v.Ref (suc o)) (ty.Class (own_type image l))
    receiver_word l o f = record { plain = λ u. u; conforms = λ p. f; fine = f.object }

    landed_words : (l : Method) (o : ℕ) (ys : List Value) → IsLanding image T h.may.accepted heap g l o → AreWords image heap ys (all_types g.def.proto.params) → AreWords image heap (v.Ref (suc o) ∷ ys) (arg_types image l)
    landed_words l o ys q w =
        let own_plain = begins_plain image l (q.same_sort ∙ plain) in
        subst (AreWords image heap (v.Ref (suc o) ∷ ys)) (sym (instance_types image l q.instance own_plain))
        (words_cons image heap (v.Ref (suc o)) (ty.Class (own_type image l)) ys (all_types l.def.proto.params) (receiver_word l o q.fits)
        (subst (λ (z : Proto). AreWords image heap ys (all_types z.params)) (sym q.same_proto) w))

    pub landing_fine : NativesDo image T m t thread own f rest x s h c ks g e → (o : ℕ) → value ≡ v.Ref (suc o) → IsOf image heap (suc o) (own_type image g) → (c ≡ Call.Super → IsOf image heap (suc o) (own_type image own)) → (ys : List Value) → AreWords image heap ys (all_types g.def.proto.params) → (d : Landing) → dispatch image heap own c g (suc o) ≡ d → DidFine image T m t thread x (landed here_it (native_step here_it) d (v.Ref (suc o) ∷ ys))
    landing_fine natives o q fits up ys w (Lacks n) i = throws image T m t thread own f rest x s h c ks g e (quiet_unless o q (λ l r u. lands_lacks l n (sym r ∙ i)))
    landing_fine natives o q fits up ys w (Lands l) i =
        let inside = class_of_method image f.method.0 own h.has_own in
        let z = landing_is image T h.may.accepted heap g callee_number.0 callee_number.1 static own c l o inside fits up i in
        let words = landed_words l o ys z w in
        landed_fine image T m t thread own f rest x s h c ks g e natives l (v.Ref (suc o) ∷ ys) z.concrete z.there
        (λ j u. record {
          there = z.there;
          is_native = u;
          words = words;
          same_proto = z.same_proto;
          plain = plain;
          instance = λ n. record { object = o; register = k; has_register = ap receiver_of e ∙ has_receiver; holds = q; lands = i; first = refl };
          static = λ n. no (sym z.instance ∙ n);
        })
        (λ u. quiet_unless o q (λ y r a. not_wait l y (same_lands l y (sym i ∙ r)) u a))
        (sym (begins_plain image l (z.same_sort ∙ plain))) words
        (called_fine image T m t thread own f rest x s h c ks g e l z.same_proto z.same_sort (λ u. no (sym plain ∙ u)))
        (of_instance image T h.may.accepted heap l z.instance)
      where
        not_wait : (a b : Method) → a ≡ b → native_of image a ≡ None → native_of image b ≡ Some native.Wait → ⊥
        not_wait a b e n u = none-some _ (sym n ∙ ap (native_of image) e ∙ u)

    -- ---- the reads of a call on an object

    abbrev IsSuperRead : Call → ℕ → Type 0
    IsSuperRead d p = d ≡ Call.Super → (object_number value ≡ p) × Fits image heap p (own_type image own)

    super_read : (d : Call) → super_for image own s.regs k d ≡ None → HoldsOf (IsSuperRead d) (read_super here_it d value)
    super_read Call.Super q =
        let r = reads_reference_to image heap (own_of image (this_above image rest) own) f.regs s.regs k (own_type image own) h.may.accepted.order h.conform.good.regs q in
        holds_more (λ p. (object_number value ≡ p) × Fits image heap p (own_type image own)) (IsSuperRead Call.Super) (read_ref image heap (own_type image own) value)
        (both_hold (λ p. object_number value ≡ p) (λ p. Fits image heap p (own_type image own)) (read_ref image heap (own_type image own) value) (read_number image heap (own_type image own) (λ p. Fits image heap p (own_type image own)) value r) r)
        (λ p w u. w)
    super_read Call.Virtual q = λ u. absurd (cc)
    super_read Call.Direct q = λ u. absurd (cc)
    super_read Call.Static q = λ u. absurd (cc)
    super_read Call.Interface q = λ u. absurd (cc)

    object_fine : NativesDo image T m t thread own f rest x s h c ks g e → (ys : List Value) → AreWords image heap ys (all_types g.def.proto.params) → (o : ℕ) → object_number value ≡ o → Fits image heap o (own_type image g) → (p : ℕ) → IsSuperRead c p → DidFine image T m t thread x (on_object (call_object here_it (native_step here_it) c g value ys) o)
    object_fine natives ys w zero n fits p up = throws image T m t thread own f rest x s h c ks g e (quiet_null n)
    object_fine natives ys w (suc o) n fits p up =
        let q = number_is value o n in
        subst (λ z. DidFine image T m t thread x (landed here_it (native_step here_it) (dispatch image heap own c g (suc o)) (z ∷ ys))) (sym q)
        (landing_fine natives o q fits (λ u. let r = up u in subst (λ z. Fits image heap z (own_type image own)) (sym r.0 ∙ n) r.1) ys w (dispatch image heap own c g (suc o)) refl)

    pub instance_fine : NativesDo image T m t thread own f rest x s h c ks g e → DidFine image T m t thread x (call_instance here_it (native_step here_it) c g value js)
    instance_fine natives =
        let a = first_none (first (ref_to image s.regs k (own_type image g)) (super_for image own s.regs k c)) (args_for image s.regs g.def.proto.params js) instance_demand in
        let b = first_none (ref_to image s.regs k (own_type image g)) (super_for image own s.regs k c) a.0 in
        let own_it = own_of image (this_above image rest) own in
        let r = reads_reference_to image heap own_it f.regs s.regs k (own_type image g) h.may.accepted.order h.conform.good.regs b.0 in
        read_then image T m t thread x (λ o. (object_number value ≡ o) × Fits image heap o (own_type image g)) (read_ref image heap (own_type image g) value) _
        (both_hold (λ o. object_number value ≡ o) (λ o. Fits image heap o (own_type image g)) (read_ref image heap (own_type image g) value) (read_number image heap (own_type image g) (λ o. Fits image heap o (own_type image g)) value r) r)
        (λ o z. read_then image T m t thread x (IsSuperRead c) (read_super here_it c value) _ (super_read c b.1)
        (λ p u. read_then image T m t thread x (λ ys. AreWords image heap ys (all_types g.def.proto.params)) (read_args image heap f.regs g.def.proto.params js) _
        (reads_arguments image heap own_it f.regs s.regs g.def.proto.params js h.may.accepted.order h.conform.good.regs a.1)
        (λ ys w. object_fine natives ys w o z.0 z.1 p u)))
