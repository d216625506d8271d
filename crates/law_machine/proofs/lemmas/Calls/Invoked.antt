-- What the cases of an invoke share.
use Rattle.std.proofs.Common.{◌≡◌, ℕ, zero, suc, List, [], ◌∷◌, true, false, Option, Some, None, refl, sym, ap, ◌∙◌, subst}
use Rattle.std.specs.Prelude.{slice_index_or, if◌then◌else◌}
use Rattle.dv_defs.specs.Images.{Image}
use Rattle.dv_machine.specs.Value.{Value}
use Rattle.dv_machine.specs.Value as v
use Rattle.dv_defs.specs.declared.run.Native.{Native}
use Rattle.dv_defs.specs.declared.run.Native.TheVariants as native
use Rattle.dv_machine.specs.Frame.{Frame}
use Rattle.dv_machine.specs.Level.{Level}
use Rattle.dv_machine.specs.Level as level
use Rattle.dv_typing.specs.declared.typing.RegState.{RegState}
use Rattle.dv_defs.specs.Parts.{Call}
use Rattle.dv_defs.specs.Pools.{Method, method_at, is_static, is_abstract, is_constructor}
use Rattle.dv_defs.specs.Op.{Op, Invoke, can_throw}
use Rattle.dv_typing.specs.Statics.{At}
use Rattle.dv_typing.specs.Transfer.{arg_types, begins_uninitialised}
use Rattle.dv_typing.specs.Flow.{is_exit}
use Rattle.dv_machine.specs.Monitors.{wait_of}
use Rattle.dv_machine.specs.State.{Thread, Machine, Here, reg_at}
use Rattle.dv_machine.specs.Calls.{Lands, dispatch, native_of, receiver_of, landed, landed_on}
use Rattle.dv_machine.specs.Natives.{native_step}
use Rattle.dv_machine.specs.Step.{here}
use Rattle.dv_machine.specs.WellTyped.{Typings, own_of, this_above, called_on, IsCalled, IsNoInitialiser}
use Rattle.law_machine.specs.Premises.{ThrowFine, DidFine}
use Rattle.law_machine.specs.Reading.{AreWords}
use Rattle.law_types.proofs.Facts.{no}
use Rattle.law_machine.proofs.lemmas.Monitors.Owners.{entry_none}
use Rattle.law_machine.proofs.lemmas.Local.Still.{IsQuiet}
use Rattle.law_machine.proofs.lemmas.Local.Stands.{Stands}
use Rattle.law_machine.proofs.lemmas.Local.Fine.{WaitsHere, quiet}
use Rattle.law_machine.proofs.lemmas.Calls.Pushed.{enter_fine}

-- the register of the receiver of an instance call
pub receiver_is : (c : Call) (k : ℕ) (ks : List ℕ) (g : Method) → is_static g ≡ false → receiver_of (Invoke c (k ∷ ks) g) ≡ Some k
receiver_is c k ks g e = ap (λ z. (if z then None else Some k)) e

pub no_receiver_of : (c : Call) (ks : List ℕ) (g : Method) → is_static g ≡ true → receiver_of (Invoke c ks g) ≡ None
no_receiver_of c [] g e = refl
no_receiver_of c (k ∷ ks) g e = ap (λ z. (if z then None else Some k)) e

pub record SameInvoke (c d : Call) (ks js : List ℕ) (g k : Method) : Type 0 where
  pub call : c ≡ d
  pub callee : g ≡ k

pub same_invoke : (c d : Call) (ks js : List ℕ) (g k : Method) → Invoke c ks g ≡ Invoke d js k → SameInvoke c d ks js g k
same_invoke c d ks js g k e = record { call = cc; callee = cc }

module _ (image : Image) (T : Typings) (m : Machine) (t : ℕ) (thread : Thread) (own : Method) (f : Frame) (rest : List Level) (x : At) (s : RegState) (h : Stands image T m t thread own f rest x s) where
  -- ---- throwing, and waiting

  pub no_entry : IsQuiet image m t → wait_of m.shared.monitors t ≡ None
  no_entry q = entry_none t m.shared.monitors.waits (λ k d l. q _ (h.may.typed.monitors.waits k d l))

  module _ (c : Call) (ks : List ℕ) (g : Method) (e : x.op ≡ Invoke c ks g) where
    pub throws : IsQuiet image m t → ThrowFine m t x
    throws q = record { can = ap can_throw e; apart = no_entry q }

    -- a thread that waits here holds the receiver, and would land on wait
    pub record WaitsAt (o : ℕ) : Type 0 where
      pub receiver : ℕ
      pub has_receiver : receiver_of (Invoke c ks g) ≡ Some receiver
      pub holds : reg_at f.regs receiver ≡ v.Ref (suc o)
      pub landed : Method
      pub lands : dispatch image m.shared.heap own c g (suc o) ≡ Lands landed
      pub is_wait : native_of image landed ≡ Some native.Wait

    waits_at : (o : ℕ) → WaitsHere image T m t thread own f rest x s h o → (p : ℕ) × WaitsAt p
    waits_at zero w = no (w.there)
    waits_at (suc o) w =
        let same = same_invoke w.call c w.args ks w.callee g (sym w.is_invoke ∙ e) in (
          o,
          record {
            receiver = w.receiver;
            has_receiver = ap receiver_of (sym e) ∙ w.has_receiver;
            holds = w.holds;
            landed = w.landed;
            lands = ap (λ z. dispatch image m.shared.heap own z g (suc o)) (sym same.call) ∙ ap (λ z. dispatch image m.shared.heap own w.call z (suc o)) (sym same.callee) ∙ w.lands;
            is_wait = w.is_wait;
          },
        )

    pub quiet_at : ((o : ℕ) → WaitsAt o → ⊥) → IsQuiet image m t
    quiet_at n = quiet image T m t thread own f rest x s h (λ o w. let q = waits_at o w in n q.0 q.1)

    -- ---- the frame above

    pub called_by : (this : Option ℕ) → called_on f (Some (record { op = Invoke c ks g; next = x.next })) ≡ this → called_on f (Some x) ≡ this
    called_by this q = by_op x.op e q
      where
        by_op : (op : Op) → op ≡ Invoke c ks g → called_on f (Some (record { op = Invoke c ks g; next = x.next })) ≡ this → called_on f (Some (record { op = op; next = x.next })) ≡ this
        by_op op i q = subst (λ z. called_on f (Some (record { op = z; next = x.next })) ≡ this) (sym i) q

    pub this_is : (this : Option ℕ) → called_on f (Some x) ≡ this → this_above image (level.Code f ∷ rest) ≡ this
    this_is this q = ap (called_on f) h.has_at ∙ q

    pub called_fine : (k : Method) → k.def.proto ≡ g.def.proto → is_constructor k ≡ is_constructor g → (is_constructor g ≡ true → (o : ℕ) × (called_on f (Some x) ≡ Some o)) → IsCalled image k f
    called_fine k p q r = record { at = x; has_at = h.has_at; call = c; args = ks; callee = g; is_invoke = e; same_proto = p; same_sort = q; has_this = r }

    -- ---- natives

    -- the receiver of an instance call
    pub record IsReceiver (k : Method) (xs : List Value) : Type 0 where
      pub object : ℕ
      pub register : ℕ
      pub has_register : receiver_of x.op ≡ Some register
      pub holds : reg_at f.regs register ≡ v.Ref (suc object)
      pub lands : dispatch image m.shared.heap own c g (suc object) ≡ Lands k
      pub first : slice_index_or xs 0 v.Undef ≡ v.Ref (suc object)

    -- a call that lands on a native
    pub record CallsNative (k : Method) (j : Native) (xs : List Value) : Type 0 where
      pub there : method_at image k.id ≡ Some k
      pub is_native : native_of image k ≡ Some j
      pub words : AreWords image m.shared.heap xs (arg_types image k)
      pub same_proto : k.def.proto ≡ g.def.proto
      pub plain : is_constructor g ≡ false
      pub instance : is_static k ≡ false → IsReceiver k xs
      pub static : is_static k ≡ true → is_static g ≡ true

    abbrev pub here_it : Here
    here_it = here image m t own f rest x.next

    -- what each native does is fine
    abbrev pub NativesDo : Type 0
    NativesDo = (k : Method) (j : Native) (xs : List Value) → CallsNative k j xs → DidFine image T m t thread x (native_step here_it j xs)

    -- a call that lands on a method that isn't abstract
    pub landed_fine : NativesDo → (k : Method) (xs : List Value) → is_abstract k ≡ false → method_at image k.id ≡ Some k → ((j : Native) → native_of image k ≡ Some j → CallsNative k j xs) → (native_of image k ≡ None → IsQuiet image m t) → false ≡ begins_uninitialised image k → AreWords image m.shared.heap xs (arg_types image k) → IsCalled image k f → IsNoInitialiser image k → DidFine image T m t thread x (landed here_it (native_step here_it) (Lands k) xs)
    landed_fine natives k xs concrete there call q flag words called none = by_native (native_of image k) refl
      where
        by_native : (o : Option Native) → native_of image k ≡ o → DidFine image T m t thread x (landed_on (here image m t own f rest x.next) (native_step (here image m t own f rest x.next)) k xs o)
        by_native (Some j) i = natives k j xs (call j i)
        by_native None i =
            let body = h.may.accepted.bodies.body k.id k there concrete i in
            enter_fine image T m t thread own f rest x s h k xs false
            (record { there = there; code = body.0; has_body = body.1; flag = flag; good = words.good (own_of image (this_above image (level.Code f ∷ rest)) k); refs = words.refs })
            called none (q i) (throws (q i), ap is_exit e)
