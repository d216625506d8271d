-- What an instruction waits for is told by the words: a monitor, a notify, or a thread that it joins.
use Rattle.std.proofs.Common.{◌≡◌, ℕ, zero, suc, Bool, true, Option, Some, None, refl, ap, ◌∙◌}
use Rattle.std.specs.Prelude.{if◌then◌else◌}
use Rattle.dv_defs.specs.declared.machine.Blocked.TheVariants as blocked
use Rattle.dv_defs.specs.declared.run.Native.{Native}
use Rattle.dv_defs.specs.declared.run.Native.TheVariants as native
use Rattle.dv_machine.specs.Value.{Value}
use Rattle.dv_machine.specs.Value as v
use Rattle.dv_defs.specs.Images.{Image}
use Rattle.dv_machine.specs.Monitors.{Monitors, owner_of, wait_of}
use Rattle.dv_defs.specs.Parts.{Call}
use Rattle.dv_defs.specs.Pools.{Method, is_constructor}
use Rattle.dv_machine.specs.Calls.{Landing, Lacks, Lands, dispatch, native_of}
use Rattle.dv_machine.specs.Running as machine
use Rattle.dv_machine.specs.Running.{blocked_wait, by_owner}
use Rattle.dv_machine.specs.State.{Machine}
use Rattle.dv_machine.specs.Threads.{thread_with}
use Rattle.dv_words.specs.Standing.{IsWord, MachineStands}
use Rattle.dv_words.specs.State.{WordMachine}
use Rattle.dv_words.specs.Calls as over
use Rattle.dv_words.specs.Running as words
use Rattle.law_words.proofs.NativeSteps.{IsReference}
use Rattle.law_words.proofs.ThreadSteps.{living_is, thread_at, thread_from_is}
use Rattle.law_engine.proofs.Landings.{NoNative, dispatch_is, lands_on_no_native}

module _ (image : Image) (w : WordMachine) (m : Machine) (stands : MachineStands w m) (t : ℕ) where
  monitors : w.shared.monitors ≡ m.shared.monitors
  monitors = stands.shared.monitors

  pub enter_is : (n : ℕ) (x : Value) → IsReference x → IsWord n x → words.blocked_enter w.shared.monitors t n ≡ machine.blocked_enter m.shared.monitors t x
  enter_is n v.Zero ref is = ap (words.blocked_enter w.shared.monitors t) is
  enter_is n (v.Ref o) ref is = ap (words.blocked_enter w.shared.monitors t) is ∙ by o
    where
      by : (o : ℕ) → words.blocked_enter w.shared.monitors t o ≡ machine.blocked_enter m.shared.monitors t (v.Ref o)
      by zero = refl
      by (suc o) = ap (λ (x : Monitors). by_owner t (owner_of x (suc o))) monitors
  enter_is n x ref is = absurd ref

  join_is : (u : Option ℕ) → words.blocked_join w.threads u ≡ machine.blocked_join m.threads u
  join_is None = refl
  join_is (Some u) = ap (λ (b : Bool). if b then Some (blocked.Join u) else None) (living_is _ _ (thread_at w.threads m.threads u stands.threads))

  native_is : (o : ℕ) (n : Option Native) → words.blocked_native w t o n ≡ machine.blocked_native m t o n
  native_is o (Some native.Wait) = ap (λ (x : Monitors). blocked_wait x (wait_of x t)) monitors
  native_is o (Some native.Join) = ap (words.blocked_join w.threads) (thread_from_is w.threads m.threads 0 o stands.threads) ∙ join_is (thread_with m.threads o)
  native_is o n = refl

  landing_is : (o : ℕ) (l : Landing) → words.blocked_landing image w t o l ≡ machine.blocked_landing image m t o l
  landing_is o (Lacks n) = refl
  landing_is o (Lands g) = native_is o (native_of image g)

  module _ (own : Method) (c : Call) (g : Method) where
    -- a call on null, or on an object
    pub call_is : (n : ℕ) (x : Value) → IsReference x → IsWord n x → words.blocked_call image w t own c g n ≡ machine.blocked_call image m t own c g x
    call_is n v.Zero ref is = ap (words.blocked_call image w t own c g) is
    call_is n (v.Ref o) ref is = ap (words.blocked_call image w t own c g) is ∙ by o
      where
        by : (o : ℕ) → words.blocked_call image w t own c g o ≡ machine.blocked_call image m t own c g (v.Ref o)
        by zero = refl
        by (suc o) =
            ap (words.blocked_landing image w t (suc o)) (dispatch_is image w.shared.heap m.shared.heap stands.shared.heap own c g (suc o)) ∙
            landing_is (suc o) (dispatch image m.shared.heap own c g (suc o))
    call_is n x ref is = absurd ref

    -- a constructor is no native, so nothing holds its call up
    pub construct_is : is_constructor g ≡ true → (n : ℕ) → words.blocked_call image w t own c g n ≡ None
    construct_is is zero = refl
    construct_is is (suc o) = by (over.dispatch image w.shared.heap own c g (suc o)) (lands_on_no_native image g is w.shared.heap own c (suc o))
      where
        by : (l : Landing) → NoNative image l → words.blocked_landing image w t (suc o) l ≡ None
        by (Lacks n) none = refl
        by (Lands k) none = ap (words.blocked_native w t (suc o)) none
