-- That a step of a thread which is held up, or has ended, leaves all but the count of steps as it was.
use Rattle.std.proofs.Common.{◌≡◌, ℕ, suc, List, [], ◌∷◌, ◌++◌, Bool, true, false, Option, Some, None, Ok, Err, refl, sym, ap, ◌∙◌, subst}
use Rattle.std.specs.Prelude.{slice_get, slice_set, nat_eq, if◌then◌else◌}
use Rattle.std.proofs.lemmas.List.{append-nil}
use Rattle.dv_defs.specs.Images.{Image}
use Rattle.dv_machine.specs.Value.{Value}
use Rattle.dv_machine.specs.Value as v
use Rattle.dv_machine.specs.Why.{Why}
use Rattle.dv_machine.specs.Why as why
use Rattle.dv_defs.specs.declared.run.Native.{Native}
use Rattle.dv_defs.specs.declared.run.Native.TheVariants as native
use Rattle.dv_machine.specs.Frame.{Frame}
use Rattle.dv_machine.specs.Level.{Level}
use Rattle.dv_machine.specs.Level as level
use Rattle.dv_defs.specs.declared.machine.End.{End}
use Rattle.dv_defs.specs.declared.machine.End.TheVariants as end
use Rattle.dv_defs.specs.declared.machine.Ask.{Ask}
use Rattle.dv_defs.specs.declared.machine.Ask.TheVariants as ask
use Rattle.dv_defs.specs.declared.machine.Blocked.{Blocked}
use Rattle.dv_defs.specs.declared.machine.Blocked.TheVariants as blocked
use Rattle.dv_defs.specs.Parts.{Call}
use Rattle.dv_defs.specs.Pools.{Method, method_at, is_static, is_constructor, own_type}
use Rattle.dv_defs.specs.Op.{Op, Enter, Invoke, needs}
use Rattle.dv_typing.specs.Statics.{At, fetch}
use Rattle.dv_machine.specs.Heap.{Heap}
use Rattle.dv_machine.specs.Monitors.{Wait, owner_of, wait_of, entered}
use Rattle.dv_machine.specs.Classes.{ask_of}
use Rattle.dv_machine.specs.State.{Thread, Machine, Left, Did, Go, IsStuck, Reads, Here, reading, reg_at, any_kind, fits_kind, tested, where_ref, read_any, read_args, with_monitors}
use Rattle.dv_machine.specs.Mem.{on_object}
use Rattle.dv_machine.specs.Calls.{unless_abstract, Landing, Lands, Lacks, dispatch, native_of, receiver_of, landed, invoke, with_receiver, call_instance, call_constructor, call_object, read_super, landed_on}
use Rattle.dv_machine.specs.Threads.{thread_with, is_living, free_or_mine, monitor_enter, stays, goes, taken_back, wait_step, join_with}
use Rattle.dv_machine.specs.Natives.{native_step}
use Rattle.dv_defs.specs.Prior.{prior_at}
use Rattle.dv_machine.specs.Step.{step_of, step_thread, step_living, step_code, step_at, settled, gone_on, here, no_method, no_frame, act, with_ready, for_class, look_at}
use Rattle.dv_machine.specs.Running.{by_ask, blocked_record, blocked_enter, blocked_waiting, blocked_native, blocked_landing, blocked_call, blocked_op, blocked_needing, blocked_at, blocked_levels, blocked_thread, by_owner, blocked_receiver, blocked_wait, blocked_join}
use Rattle.law_machine.specs.StepLaws.{BlockedStepsWait, EndedStepsStay}
use Rattle.law_machine.proofs.lemmas.Common.Lists.{set_same}

-- only the count of steps changes
Waits : Machine → Reads Machine → Type 0
Waits m r = (after : Machine) → r ≡ Ok after → after ≡ record m { steps = suc m.steps }

same_Ok : (a b : Machine) (r : Reads Machine) → r ≡ Ok a → r ≡ Ok b → a ≡ b
same_Ok a b r e u = cc

stuck_waits : (m : Machine) (y : Why) → Waits m (Err y)
unfolding Waits
stuck_waits m y after e = absurd (cc)

module _ (image : Image) (m : Machine) (t : ℕ) (thread : Thread) (has : slice_get m.threads t ≡ Some thread) (living : thread.end ≡ end.Living) where
  -- the thread as it was is written again
  same_threads : (ls : List Level) → thread.levels ≡ ls → slice_set m.threads t (record { levels = ls; end = end.Living; object = thread.object }) ++ [] ≡ m.threads
  same_threads ls levels =
      let same : record { levels = ls; end = end.Living; object = thread.object } ≡ thread = ap (λ z. let y : Thread = record { levels = z; end = end.Living; object = thread.object } in y) (sym levels) ∙ ap (λ z. let y : Thread = record { levels = thread.levels; end = z; object = thread.object } in y) (sym living) in
      append-nil (slice_set m.threads t (record { levels = ls; end = end.Living; object = thread.object })) ∙ ap (slice_set m.threads t) same ∙ set_same m.threads t thread has

  module _ (x : Option At) where
    Stays : Did Left → Type 0
    Stays d = Waits m (settled image m t thread x d)

    is_stuck : (y : Why) → Stays (IsStuck y)
    unfolding Stays
    is_stuck y = stuck_waits m y

    as_it_was : (l : Level) (ls : List Level) → thread.levels ≡ l ∷ ls → Stays (Go (record { levels = l ∷ ls; shared = m.shared; started = None }))
    unfolding Stays Waits
    as_it_was l ls levels after e =
        sym (same_Ok (gone_on m t thread (record { levels = l ∷ ls; shared = m.shared; started = None })) after _ refl e) ∙
        ap (λ z. let n : Machine = record { threads = z; shared = m.shared; steps = suc m.steps; stop = m.stop; limits = m.limits; preallocated = m.preallocated } in n) (same_threads (l ∷ ls) levels)

    -- a class that another thread initialises
    class_waits : (h : Here) (l : Level) (ls : List Level) (c : ℕ) (a : Ask) (b : Blocked) (more : Option Blocked) (go : Did Left) → h.shared ≡ m.shared → thread.levels ≡ l ∷ ls → (more ≡ Some b → Stays go) → by_ask a more c ≡ Some b → Stays (for_class h (l ∷ ls) c a go)
    class_waits h l ls c ask.Go b more go same levels n e = n e
    class_waits h l ls c ask.Begin b more go same levels n e = absurd (cc)
    class_waits h l ls c (ask.Wait u) b more go same levels n e = subst (λ sh. Stays (Go (record { levels = l ∷ ls; shared = sh; started = None }))) (sym same) (as_it_was l ls levels)
    class_waits h l ls c ask.Bad b more go same levels n e = absurd (cc)

  -- ---- at an instruction

  module _ (own : Method) (f : Frame) (rest : List Level) (levels : thread.levels ≡ level.Code f ∷ rest) (x : At) where
    abbrev here_it : Here
    here_it = here image m t own f rest x.next

    abbrev heap : Heap
    heap = m.shared.heap

    abbrev At_Stays : Did Left → Type 0
    At_Stays d = Stays (Some x) d

    it_stays : At_Stays (stays here_it)
    it_stays = as_it_was (Some x) (level.Code f) rest levels

    -- a monitor that another thread owns
    owner_waits : (o : ℕ) (b : Blocked) (u : Option ℕ) → by_owner t u ≡ Some b → At_Stays (if free_or_mine here_it u then goes here_it (with_monitors m.shared (entered m.shared.monitors o t 1)) else stays here_it)
    owner_waits o b None e = absurd (cc)
    owner_waits o b (Some u) e = by_thread (nat_eq u t) e
      where
        by_thread : (c : Bool) → (if c then None else Some blocked.Monitor) ≡ Some b → At_Stays (if c then goes here_it (with_monitors m.shared (entered m.shared.monitors o t 1)) else stays here_it)
        by_thread true e = absurd (cc)
        by_thread false e = it_stays

    enter_waits : (y : Value) (b : Blocked) → blocked_enter m.shared.monitors t y ≡ Some b → At_Stays (reading (read_any heap y) (on_object (monitor_enter here_it)))
    enter_waits (v.Ref (suc o)) b e = by_test (tested any_kind heap (suc o))
      where
        by_test : (c : Bool) → Stays (Some x) (reading (where_ref c (suc o)) (on_object (monitor_enter here_it)))
        by_test true = owner_waits (suc o) b (owner_of m.shared.monitors (suc o)) e
        by_test false = is_stuck (Some x) why.Reference
    enter_waits y b e = absurd (cc)

    -- a wait that is to last, and a join
    entry_waits : (w : Wait) (b : Blocked) (n : Bool) (u : Option ℕ) → blocked_waiting n u ≡ Some b → At_Stays (taken_back here_it w n u)
    entry_waits w b false u e = it_stays
    entry_waits w b true (Some u) e = it_stays
    entry_waits w b true None e = absurd (cc)

    wait_waits : (o : ℕ) (b : Blocked) (r : Option Wait) → blocked_wait m.shared.monitors r ≡ Some b → At_Stays (wait_step here_it o r)
    wait_waits o b None e = absurd (cc)
    wait_waits o b (Some w) e = entry_waits w b w.notified (owner_of m.shared.monitors w.object) e

    join_waits : (b : Blocked) (r : Option ℕ) → blocked_join m.threads r ≡ Some b → At_Stays (join_with here_it r)
    join_waits b None e = absurd (cc)
    join_waits b (Some u) e = by_end (is_living (slice_get m.threads u)) e
      where
        by_end : (c : Bool) → (if c then Some (blocked.Join u) else None) ≡ Some b → At_Stays (if c then stays here_it else goes here_it m.shared)
        by_end true e = it_stays
        by_end false e = absurd (cc)

    native_waits : (o : ℕ) (b : Blocked) (n : Option Native) (xs : List Value) (k : Method) → blocked_native m t o n ≡ Some b → At_Stays (landed_on here_it (native_step here_it) k (v.Ref o ∷ xs) n)
    native_waits o b (Some native.Wait) xs k e = wait_waits o b (wait_of m.shared.monitors t) e
    native_waits o b (Some native.Join) xs k e = join_waits b (thread_with m.threads o) e
    native_waits o b n xs k e = absurd (cc)

    landing_waits : (o : ℕ) (b : Blocked) (l : Landing) (xs : List Value) → blocked_landing image m t o l ≡ Some b → At_Stays (landed here_it (native_step here_it) l (v.Ref o ∷ xs))
    landing_waits o b (Lacks n) xs e = absurd (cc)
    landing_waits o b (Lands k) xs e = native_waits o b (native_of image k) xs k e

    -- the reads before a call can only be stuck
    read_first : {A : Type 0} (r : Reads A) (go : A → Did Left) → ((y : A) → At_Stays (go y)) → At_Stays (reading r go)
    read_first (Ok y) go n = n y
    read_first (Err y) go n = is_stuck (Some x) y

    constructor_waits : (c : Call) (g : Method) (ks : List ℕ) (y : Value) (b : Blocked) → blocked_call image m t own c g y ≡ Some b → At_Stays (call_constructor here_it g y ks)
    constructor_waits c g ks (v.Ref (suc o)) b e = is_stuck (Some x) why.Uninitialised
    constructor_waits c g ks y b e = absurd (cc)

    instance_waits : (c : Call) (g : Method) (ks : List ℕ) (y : Value) (b : Blocked) → blocked_call image m t own c g y ≡ Some b → At_Stays (call_instance here_it (native_step here_it) c g y ks)
    instance_waits c g ks (v.Ref (suc o)) b e = by_test (tested (fits_kind image (own_type image g)) heap (suc o))
      where
        called : ℕ → Did Left
        called o' = reading (read_super here_it c (v.Ref (suc o))) (λ p. reading (read_args image heap f.regs g.def.proto.params ks) (λ xs. on_object (call_object here_it (native_step here_it) c g (v.Ref (suc o)) xs) o'))

        by_test : (z : Bool) → At_Stays (reading (where_ref z (suc o)) called)
        by_test true = read_first (read_super here_it c (v.Ref (suc o))) _ (λ p. read_first (read_args image heap f.regs g.def.proto.params ks) _ (λ xs. landing_waits (suc o) b (dispatch image heap own c g (suc o)) xs e))
        by_test false = is_stuck (Some x) why.Reference
    instance_waits c g ks y b e = absurd (cc)

    receiver_waits : (c : Call) (g : Method) (ks : List ℕ) (b : Blocked) → blocked_receiver image m t own f c g (receiver_of (Invoke c ks g)) ≡ Some b → At_Stays (invoke here_it (native_step here_it) c ks g)
    receiver_waits c g [] b e = absurd (cc)
    receiver_waits c g (k ∷ ks) b e = by_sort (is_static g) e
      where
        by_form : (z : Bool) → blocked_call image m t own c g (reg_at f.regs k) ≡ Some b → At_Stays (elim z as (λ w. Did Left) [ true ↦ call_constructor here_it g (reg_at f.regs k) ks | false ↦ call_instance here_it (native_step here_it) c g (reg_at f.regs k) ks ])
        by_form true e = constructor_waits c g ks (reg_at f.regs k) b e
        by_form false e = instance_waits c g ks (reg_at f.regs k) b e

        by_sort : (z : Bool) → blocked_receiver image m t own f c g (if z then None else Some k) ≡ Some b → At_Stays (elim z as (λ w. Did Left) [ true ↦ reading (read_args image heap f.regs g.def.proto.params (k ∷ ks)) (landed here_it (native_step here_it) (unless_abstract g)) | false ↦ with_receiver here_it (native_step here_it) c g (k ∷ ks) ])
        by_sort true e = absurd (cc)
        by_sort false e = by_form (is_constructor g) e

    op_waits : (op : Op) (b : Blocked) → blocked_op image m t own f op ≡ Some b → At_Stays (act here_it op)
    op_waits (Enter a) b e = enter_waits (reg_at f.regs a) b e
    op_waits (Invoke c ks g) b e = receiver_waits c g ks b e
    op_waits op b e = absurd (cc)

    needing_waits : (op : Op) (b : Blocked) (c : Option ℕ) → blocked_needing image m t own f op c ≡ Some b → At_Stays (with_ready here_it op c)
    needing_waits op b None e = op_waits op b e
    needing_waits op b (Some c) e = class_waits (Some x) here_it (level.Code f) rest c (ask_of m.shared.classes c t) b (blocked_op image m t own f op) (act here_it op) refl levels (op_waits op b) e

  -- ---- at a record

  record_waits : (c : ℕ) (rest : List Level) (b : Blocked) (ps : List ℕ) → thread.levels ≡ level.Init (record { 0 = c }) false ∷ rest → blocked_record m.shared.classes t ps ≡ Some b → Stays None (look_at (here image m t no_method no_frame rest 0) c ps)
  record_waits c rest b [] levels e = absurd (cc)
  record_waits c rest b (p ∷ ps) levels e =
      let h : Here = here image m t no_method no_frame rest 0 in
      class_waits None h (level.Init (record { 0 = c }) false) rest p (ask_of m.shared.classes p t) b (blocked_record m.shared.classes t ps) (look_at h c ps) refl levels (record_waits c rest b ps levels) e

  -- ---- the whole step

  at_waits : (own : Method) (f : Frame) (rest : List Level) (b : Blocked) (a : Option At) → thread.levels ≡ level.Code f ∷ rest → blocked_at image m t f (Some own) a ≡ Some b → Waits m (step_at image m t thread own f rest a)
  unfolding Stays
  at_waits own f rest b None levels e = absurd (cc)
  at_waits own f rest b (Some x) levels e = needing_waits own f rest levels x x.op b (needs x.op) e

  code_waits : (f : Frame) (rest : List Level) (b : Blocked) (own : Option Method) → thread.levels ≡ level.Code f ∷ rest → blocked_at image m t f own (fetch image f.method.0 f.at) ≡ Some b → Waits m (step_code image m t thread f rest own)
  code_waits f rest b None levels e = absurd (cc)
  code_waits f rest b (Some own) levels e = at_waits own f rest b (fetch image f.method.0 f.at) levels e

  levels_wait : (b : Blocked) (ls : List Level) → thread.levels ≡ ls → blocked_levels image m t ls ≡ Some b → Waits m (step_living image m t thread ls)
  unfolding Stays
  levels_wait b [] levels e = absurd (cc)
  levels_wait b (level.Code f ∷ ls) levels e = code_waits f ls b (method_at image f.method.0) levels e
  levels_wait b (level.Init c true ∷ ls) levels e = absurd (cc)
  levels_wait b (level.Init c false ∷ ls) levels e = record_waits c.0 ls b (prior_at image c.0) levels e

pub blocked_steps_wait : BlockedStepsWait
unfolding Waits
blocked_steps_wait image m after t thread b has e = subst (λ (r : Option Thread). Waits m (step_of image m t r)) (sym has) (by_end thread.end refl e) after
  where
    by_end : (y : End) → thread.end ≡ y → blocked_thread image m t (record { levels = thread.levels; end = y; object = thread.object }) ≡ Some b → Waits m (step_thread image m t thread y)
    by_end end.Living living e = levels_wait image m t thread has living b thread.levels refl e
    by_end y i e = absurd (cc)

pub ended_steps_stay : EndedStepsStay
ended_steps_stay image m t e = by_thread (slice_get m.threads t) e
  where
    by_end : (th : Thread) (y : End) → is_living (Some (record { levels = th.levels; end = y; object = th.object })) ≡ false → step_thread image m t th y ≡ Ok m
    by_end th end.Living e = absurd (cc)
    by_end th (end.Flying o) e = absurd (cc)
    by_end th y e = refl

    by_thread : (r : Option Thread) → is_living r ≡ false → step_of image m t r ≡ Ok m
    by_thread None e = refl
    by_thread (Some th) e = by_end th th.end e
