-- A thread whose next instruction is local: it may step, the run goes on, and its step leaves all but its frame as it was.
use Rattle.std.proofs.Common.{◌≡◌, ℕ, zero, suc, ◌+◌, Bool, true, false, Option, Some, None, Ok, Err, List, [], ◌∷◌, refl, sym, ap, ◌∙◌, subst, arith}
use Rattle.std.specs.Prelude.{◌&&◌, is_none, nat_eq, not, slice_get, slice_set, if◌then◌else◌}
use Rattle.dv_defs.specs.declared.machine.End.{End}
use Rattle.dv_defs.specs.declared.machine.End.TheVariants as end
use Rattle.dv_machine.specs.Frame.{Frame}
use Rattle.dv_machine.specs.Level.{Level}
use Rattle.dv_machine.specs.Level as level
use Rattle.dv_defs.specs.declared.run.Ending.{Ending}
use Rattle.dv_defs.specs.declared.run.Ending.TheVariants as ending
use Rattle.dv_defs.specs.Images.{Image}
use Rattle.dv_defs.specs.Op.{Enter, Exit, Invoke, Op, Return, ReturnVoid, is_local, needs}
use Rattle.dv_defs.specs.Pools.{Method, method_at}
use Rattle.dv_typing.specs.Statics.{At, fetch}
use Rattle.dv_machine.specs.Local.{local}
use Rattle.dv_machine.specs.Mem.{mem}
use Rattle.dv_machine.specs.Replaying.{is_local_at, is_local_level, is_running, next_is_local, thread_is_local}
use Rattle.dv_machine.specs.Running.{all_ended, any_runnable, blocked_at, blocked_levels, blocked_needing, blocked_op, ending_by, ending_of, runnable, runnable_one, runnable_thread}
use Rattle.dv_machine.specs.State.{Here, Left, Machine, Reads, Thread, onward, reading}
use Rattle.dv_machine.specs.Step.{act, gone_on, here, local_left, settled, step, step_at, step_code, step_of, with_ready}
use Rattle.dv_machine.specs.Threads.{is_living}
use Rattle.law_types.proofs.Facts.{no}
use Rattle.law_machine.proofs.lemmas.Common.Lists.{get_front, set_there}
use Rattle.law_words.proofs.Slices.{needs_none, of_method}

-- a living thread with this frame on top
abbrev pub topped : Frame → List Level → ℕ → Thread
topped f ls o = record { levels = level.Code f ∷ ls; end = end.Living; object = o }

-- the thread stands at a local instruction
pub record IsAtLocal (image : Image) (m : Machine) (t : ℕ) : Type 0 where
  pub frame : Frame
  pub rest : List Level
  pub object : ℕ
  pub there : slice_get m.threads t ≡ Some (topped frame rest object)
  pub own : Method
  pub has_own : method_at image frame.method.0 ≡ Some own
  pub at : At
  pub has_at : fetch image frame.method.0 frame.at ≡ Some at
  pub local : is_local at.op ≡ true

-- ---- the next instruction

pub at_local : (image : Image) (m : Machine) (t : ℕ) → next_is_local image m t ≡ true → IsAtLocal image m t
at_local image m t e = by (slice_get m.threads t) refl e
  where
    by_at : (f : Frame) (ls : List Level) (o : ℕ) (a : Option At) → slice_get m.threads t ≡ Some (topped f ls o) → fetch image f.method.0 f.at ≡ a → is_local_at a ≡ true → IsAtLocal image m t
    by_at f ls o None there found e = absurd (cc)
    by_at f ls o (Some x) there found e =
        let own = of_method image f.method.0 f.at x found in
        record { frame = f; rest = ls; object = o; there = there; own = own.0; has_own = own.1; at = x; has_at = found; local = e }

    by_levels : (ls : List Level) (o : ℕ) → slice_get m.threads t ≡ Some (record { levels = ls; end = end.Living; object = o }) → is_local_level image ls ≡ true → IsAtLocal image m t
    by_levels [] o there e = absurd (cc)
    by_levels (level.Init c r ∷ ls) o there e = absurd (cc)
    by_levels (level.Code f ∷ ls) o there e = by_at f ls o (fetch image f.method.0 f.at) there refl e

    by_end : (ls : List Level) (n : End) (o : ℕ) → slice_get m.threads t ≡ Some (record { levels = ls; end = n; object = o }) → (is_running n && is_local_level image ls) ≡ true → IsAtLocal image m t
    by_end ls end.Living o there e = by_levels ls o there e
    by_end ls n o there e = absurd (cc)

    by : (o : Option Thread) → slice_get m.threads t ≡ o → thread_is_local image o ≡ true → IsAtLocal image m t
    by None there e = absurd (cc)
    by (Some th) there e = by_end th.levels th.end th.object there e

-- ---- lists of threads

pub one_lives : (ts : List Thread) (t : ℕ) (th : Thread) → slice_get ts t ≡ Some th → is_living (Some th) ≡ true → all_ended ts ≡ false
one_lives [] t th there lives = absurd (cc)
one_lives (u ∷ ts) zero th there lives = let same : u ≡ th = cc in subst (λ (x : Thread). (not (is_living (Some x)) && all_ended ts) ≡ false) (sym same) (ap (λ (b : Bool). not b && all_ended ts) lives)
one_lives (u ∷ ts) (suc t) th there lives = by (not (is_living (Some u))) (one_lives ts t th there lives)
  where
    by : (b : Bool) → all_ended ts ≡ false → (b && all_ended ts) ≡ false
    by true e = e
    by false e = refl

-- by its number, which is so many above the first one's
pub one_runs : (image : Image) (m : Machine) (ts : List Thread) (k t n : ℕ) (th : Thread) → n ≡ k + t → slice_get ts t ≡ Some th → runnable_thread image m n th ≡ true → any_runnable image m ts k ≡ true
one_runs image m [] k t n th place there runs = absurd (cc)
one_runs image m (u ∷ ts) k zero n th place there runs =
    let same : th ≡ u = cc in
    let first : n ≡ k = omega arith in
    let here : runnable_thread image m k u ≡ true = subst (λ (x : Thread). runnable_thread image m k x ≡ true) same (subst (λ (j : ℕ). runnable_thread image m j th ≡ true) first runs) in
    ap (λ (b : Bool). elim b as (λ z. Bool) [ true ↦ true | false ↦ any_runnable image m ts (suc k) ]) here
one_runs image m (u ∷ ts) k (suc t) n th place there runs = by (runnable_thread image m k u) (one_runs image m ts (suc k) t n th (omega (arith, place)) there runs)
  where
    by : (b : Bool) → any_runnable image m ts (suc k) ≡ true → elim b as (λ z. Bool) [ true ↦ true | false ↦ any_runnable image m ts (suc k) ] ≡ true
    by true later = refl
    by false later = later

-- a run that has no ending wasn't stopped
pub not_stopped : (image : Image) (m : Machine) → ending_of image m ≡ None → m.stop ≡ None
not_stopped image m going = by m.stop going
  where
    by : (o : Option Ending) → ending_by image m o ≡ None → o ≡ None
    by None e = refl
    by (Some x) e = absurd (cc)

-- ... and has steps left
pub has_steps_left : (image : Image) (m : Machine) → ending_of image m ≡ None → nat_eq m.steps m.limits.budget ≡ false
has_steps_left image m going = by (all_ended m.threads) (nat_eq m.steps m.limits.budget) (sym (ap (ending_by image m) (not_stopped image m going)) ∙ going)
  where
    by : (ended spent : Bool) → elim ended as (λ z. Option Ending) [ true ↦ Some ending.Done | false ↦ elim spent as (λ z. Option Ending) [ true ↦ Some ending.Steps | false ↦ elim (any_runnable image m m.threads 0) as (λ z. Option Ending) [ true ↦ None | false ↦ Some ending.NoRunnable ] ] ] ≡ None → spent ≡ false
    by true spent e = absurd (cc)
    by false true e = absurd (cc)
    by false false e = refl

-- ---- operations

unheld : (image : Image) (m : Machine) (t : ℕ) (own : Method) (f : Frame) (op : Op) → is_local op ≡ true → blocked_op image m t own f op ≡ None
unheld image m t own f (Enter a) e = absurd (cc)
unheld image m t own f (Invoke c ks g) e = absurd (cc)
unheld image m t own f op e = refl

act_local : (h : Here) (op : Op) → is_local op ≡ true → act h op ≡ local_left h op
act_local h (Invoke c ks g) e = no e
act_local h ReturnVoid e = no e
act_local h (Return w a) e = no e
act_local h (Enter a) e = no e
act_local h (Exit a) e = no e
act_local h op e = ap (λ z. (if z then local_left h op else mem h op)) e

-- a step after which all but the frame is as it was
pub record IsLocalStep (m n : Machine) (t : ℕ) : Type 0 where
  pub frame : Frame
  pub rest : List Level
  pub object : ℕ
  pub there : slice_get n.threads t ≡ Some (topped frame rest object)
  pub steps : n.steps ≡ suc m.steps
  pub stop : n.stop ≡ m.stop
  pub limits : n.limits ≡ m.limits

module _ (image : Image) (m : Machine) (t : ℕ) (h : IsAtLocal image m t) where
  abbrev thread : Thread
  thread = topped h.frame h.rest h.object

  abbrev sees : Here
  sees = here image m t h.own h.frame h.rest h.at.next

  pub is_next : next_is_local image m t ≡ true
  is_next = ap (thread_is_local image) h.there ∙ ap is_local_at h.has_at ∙ h.local

  thread_runs : runnable_thread image m t thread ≡ true
  thread_runs =
      let needing : blocked_needing image m t h.own h.frame h.at.op (needs h.at.op) ≡ None = ap (blocked_needing image m t h.own h.frame h.at.op) (needs_none h.at.op h.local) ∙ unheld image m t h.own h.frame h.at.op h.local in
      let levels : blocked_levels image m t (level.Code h.frame ∷ h.rest) ≡ None = ap (λ (o : Option Method). blocked_at image m t h.frame o (fetch image h.frame.method.0 h.frame.at)) h.has_own ∙ ap (blocked_at image m t h.frame (Some h.own)) h.has_at ∙ needing in
      ap is_none levels

  pub may_step : runnable image m t ≡ true
  may_step = ap (runnable_one image m t) h.there ∙ thread_runs

  pub goes_on : m.stop ≡ None → nat_eq m.steps m.limits.budget ≡ false → ending_of image m ≡ None
  goes_on stop budget =
      ap (ending_by image m) stop ∙
      ap (λ (b : Bool). elim b as (λ z. Option Ending) [ true ↦ Some ending.Done | false ↦ elim (nat_eq m.steps m.limits.budget) as (λ z. Option Ending) [ true ↦ Some ending.Steps | false ↦ elim (any_runnable image m m.threads 0) as (λ z. Option Ending) [ true ↦ None | false ↦ Some ending.NoRunnable ] ] ]) (one_lives m.threads t thread h.there refl) ∙
      ap (λ (b : Bool). elim b as (λ z. Option Ending) [ true ↦ Some ending.Steps | false ↦ elim (any_runnable image m m.threads 0) as (λ z. Option Ending) [ true ↦ None | false ↦ Some ending.NoRunnable ] ]) budget ∙
      ap (λ (b : Bool). elim b as (λ z. Option Ending) [ true ↦ None | false ↦ Some ending.NoRunnable ]) (one_runs image m m.threads 0 t t thread (omega arith) h.there thread_runs)

  -- its step is the local one
  step_is : step image m t ≡ settled image m t thread (Some h.at) (reading (local h.at.op h.frame h.at.next) (onward sees m.shared))
  step_is =
      ap (step_of image m t) h.there ∙ ap (step_code image m t thread h.frame h.rest) h.has_own ∙ ap (step_at image m t thread h.own h.frame h.rest) h.has_at ∙
      ap (λ (o : Option ℕ). settled image m t thread (Some h.at) (with_ready sees h.at.op o)) (needs_none h.at.op h.local) ∙
      ap (settled image m t thread (Some h.at)) (act_local sees h.at.op h.local)

  pub local_step : (n : Machine) → step image m t ≡ Ok n → IsLocalStep m n t
  local_step n e = by (local h.at.op h.frame h.at.next) (sym step_is ∙ e)
    where
      left : Frame → Left
      left g = record { levels = level.Code g ∷ h.rest; shared = m.shared; started = None }

      by : (r : Reads Frame) → settled image m t thread (Some h.at) (reading r (onward sees m.shared)) ≡ Ok n → IsLocalStep m n t
      by (Err y) e = absurd (cc)
      by (Ok g) e =
          let same : gone_on m t thread (record { levels = level.Code g ∷ h.rest; shared = m.shared; started = None }) ≡ n = cc in
          let put = set_there m.threads t (topped g h.rest h.object) thread h.there in
          subst (λ (z : Machine). IsLocalStep m z t) same (record {
            frame = g;
            rest = h.rest;
            object = h.object;
            there = get_front (slice_set m.threads t (topped g h.rest h.object)) [] t (topped g h.rest h.object) put;
            steps = refl;
            stop = refl;
            limits = refl;
          })
