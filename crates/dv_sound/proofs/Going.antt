-- Whether a run goes on and a thread may step: what the words tell is what the tagged machine's state tells.
use Rattle.std.proofs.Common.{◌≡◌, ◌<◌, ◌≤◌, ◌^◌, ℕ, Bool, true, false, Option, Some, None, refl, sym, ap, ◌∙◌, arith}
use Rattle.std.specs.Prelude.{◌&&◌, is_none, length, nat_eq, nat_lt, not, slice_get}
use Rattle.std.proofs.lemmas.Bool.{and_from, and_parts, and_right, eq-eqb, eqb-true, ltb-false, ltb-true}
use Rattle.dv_defs.specs.declared.run.Ending.{Ending}
use Rattle.dv_defs.specs.declared.run.Ending.TheVariants as ending
use Rattle.dv_defs.specs.declared.run.Limits.{Limits}
use Rattle.dv_defs.specs.Images.{Image}
use Rattle.dv_machine.specs.Replaying.{next_is_local}
use Rattle.dv_machine.specs.Running.{all_ended, any_runnable, ending_by, ending_of, ending_without_stop, runnable, runnable_one, runnable_thread}
use Rattle.dv_machine.specs.State.{Machine, Thread}
use Rattle.dv_machine.specs.WellTyped.{Typings}
use Rattle.dv_words.specs.Running as words
use Rattle.law_engine.specs.RunningLaws.{RunsAlike}
use Rattle.law_engine.proofs.Endings.{running_follows}
use Rattle.law_engine.proofs.Going.{at_local, goes_on as goes_on_locally, one_lives, one_runs}
use Rattle.dv_threads.specs.Kept.{threads_of}
use Rattle.dv_core.specs.declared.vm.Vm.{Vm}
use Rattle.dv_core.specs.Machines.{machine_of}
use Rattle.dv_core.specs.Watching.{AreWatchable}
use Rattle.dv_core.proofs.Waits.{many}
use Rattle.dv_core.proofs.Watches.{watches_fit}
use Rattle.dv_sound.specs.Moves.{IsGood, StandsFor, goes_on, may_step}

-- ---- the ending, where some thread is runnable

less_is : (a b : ℕ) → a ≤ b → nat_lt a b ≡ not (nat_eq a b)
less_is a b le = by (nat_lt a b) (nat_eq a b) refl refl
  where
    by : (x y : Bool) → nat_lt a b ≡ x → nat_eq a b ≡ y → x ≡ not y
    by true true l e = absurd (let less = ltb-true a b l in let same = eqb-true a b e in omega (arith, less, same))
    by true false l e = refl
    by false true l e = refl
    by false false l e = absurd (let more = ltb-false a b l in let same : a ≡ b = omega (arith, le, more) in let eq = eq-eqb a b same in let d : true ≡ false = sym eq ∙ e in cc d)

abbrev by_budget : Bool → Option Ending → Option Ending
by_budget b rest = elim b [ true ↦ Some ending.Steps | false ↦ rest ]

abbrev by_runnable : Bool → Option Ending
by_runnable b = elim b [ true ↦ None | false ↦ Some ending.NoRunnable ]

abbrev by_ended : Bool → Option Ending → Option Ending
by_ended b rest = elim b [ true ↦ Some ending.Done | false ↦ rest ]

module _ (image : Image) (m : Machine) (t : ℕ) (may : runnable image m t ≡ true) where
  -- the thread that is runnable
  pub thread : (th : Thread) × (slice_get m.threads t ≡ Some th) × (runnable_thread image m t th ≡ true)
  thread = by (slice_get m.threads t) refl may
    where
      by : (o : Option Thread) → slice_get m.threads t ≡ o → runnable_one image m t o ≡ true → (th : Thread) × (slice_get m.threads t ≡ Some th) × (runnable_thread image m t th ≡ true)
      by None there e = absurd (cc e)
      by (Some th) there e = (th, there, e)

  lives : all_ended m.threads ≡ false
  lives = one_lives m.threads t thread.0 thread.1 (and_parts _ _ thread.2).0

  some_runs : any_runnable image m m.threads 0 ≡ true
  some_runs = one_runs image m m.threads 0 t t thread.0 (omega arith) thread.1 thread.2

  unstopped : is_none (ending_without_stop image m) ≡ not (nat_eq m.steps m.limits.budget)
  unstopped =
      ap (λ b. is_none (by_ended b (by_budget (nat_eq m.steps m.limits.budget) (by_runnable (any_runnable image m m.threads 0))))) lives ∙
      ap (λ b. is_none (by_budget (nat_eq m.steps m.limits.budget) (by_runnable b))) some_runs ∙ by (nat_eq m.steps m.limits.budget)
    where
      by : (b : Bool) → is_none (by_budget b None) ≡ not b
      by true = refl
      by false = refl

-- ---- an engine

module _ (image : Image) (T : Typings) (v : Vm) (m : Machine) (good : IsGood image T) (at : StandsFor image T v m) where
  pub few_stacks : length v.guest.threads.stacks.items < 2 ^ 32
  few_stacks =
      let ts = v.guest.threads in
      let same : length (threads_of ts) ≡ length ts.stacks.items = many ts.stacks.items ts.ends.items ts.objects.items at.ordered.aligned.ends at.ordered.aligned.objects in
      omega (arith, same, at.few, at.numbered)

  pub watchable : AreWatchable image v
  watchable = watches_fit image T v m good.accepted good.strings at.simulated at.ordered few_stacks

  pub alike : RunsAlike image (machine_of v) m
  alike = running_follows image T (machine_of v) m good.accepted at.simulated

  steps_left : nat_lt v.steps v.limits.budget ≡ not (nat_eq m.steps m.limits.budget)
  steps_left =
      let stands = at.simulated.stands in
      less_is v.steps v.limits.budget at.spent ∙ ap (λ n. not (nat_eq n v.limits.budget)) stands.steps ∙ ap (λ (l : Limits). not (nat_eq m.steps l.budget)) stands.limits

  pub going : (t : ℕ) → runnable image m t ≡ true → goes_on v ≡ is_none (ending_of image m)
  going t may = by m.stop refl
    where
      by : (o : Option Ending) → m.stop ≡ o → goes_on v ≡ is_none (ending_of image m)
      by (Some x) stopped =
          ap (λ o. is_none o && nat_lt v.steps v.limits.budget) (at.simulated.stands.stop ∙ stopped) ∙ sym (ap (λ o. is_none (ending_by image m o)) stopped)
      by None stopped =
          ap (λ o. is_none o && nat_lt v.steps v.limits.budget) (at.simulated.stands.stop ∙ stopped) ∙ steps_left ∙ sym (unstopped image m t may) ∙
          sym (ap (λ o. is_none (ending_by image m o)) stopped)

  pub may_is : (t : ℕ) → (goes_on v && words.runnable image (machine_of v) t) ≡ may_step image m t
  may_is t = ap (λ b. goes_on v && b) (alike.runnable t) ∙ by (runnable image m t) refl
    where
      by : (b : Bool) → runnable image m t ≡ b → (goes_on v && b) ≡ (is_none (ending_of image m) && b)
      by false e = and_right (goes_on v) false refl ∙ sym (and_right (is_none (ending_of image m)) false refl)
      by true e = ap (λ b. b && true) (going t e)

pub none_of : (o : Option Ending) → is_none o ≡ true → o ≡ None
none_of None e = refl
none_of (Some x) e = absurd (cc e)

not_true : (b : Bool) → not b ≡ true → b ≡ false
not_true true e = absurd (cc e)
not_true false e = refl

-- a thread that may step: the run goes on, and it is runnable
pub may_parts : (image : Image) (m : Machine) (t : ℕ) → may_step image m t ≡ true → (ending_of image m ≡ None) × (runnable image m t ≡ true)
may_parts image m t e = let both = and_parts (is_none (ending_of image m)) (runnable image m t) e in (none_of (ending_of image m) both.0, both.1)

-- where the run goes on, the budget has room for a step
module _ (image : Image) (T : Typings) (v : Vm) (m : Machine) (good : IsGood image T) (at : StandsFor image T v m) where
  pub budget_open : ending_of image m ≡ None → nat_eq m.steps m.limits.budget ≡ false
  budget_open going = by m.stop refl
    where
      unspent : (b : Bool) → nat_eq m.steps m.limits.budget ≡ b → ending_without_stop image m ≡ None → nat_eq m.steps m.limits.budget ≡ false
      unspent false e none = e
      unspent true e none = ended (all_ended m.threads) (sym (ap (λ x. by_ended (all_ended m.threads) (by_budget x (by_runnable (any_runnable image m m.threads 0)))) e) ∙ none)
        where
          ended : (b : Bool) → by_ended b (Some ending.Steps) ≡ None → nat_eq m.steps m.limits.budget ≡ false
          ended true d = absurd (cc d)
          ended false d = absurd (cc d)

      by : (o : Option Ending) → m.stop ≡ o → nat_eq m.steps m.limits.budget ≡ false
      by (Some x) stopped = let d : None ≡ Some x = sym going ∙ ap (ending_by image m) stopped in absurd (cc d)
      by None stopped = unspent (nat_eq m.steps m.limits.budget) refl (sym (ap (ending_by image m) stopped) ∙ going)

  pub budget_left : ending_of image m ≡ None → v.steps < v.limits.budget
  budget_left going = let e : nat_lt v.steps v.limits.budget ≡ true = steps_left image T v m good at ∙ ap not (budget_open going) in ltb-true v.steps v.limits.budget e

  -- nothing stopped the run, and its steps aren't spent: it goes on where some thread's next step is local
  pub going_locally : (t : ℕ) → goes_on v ≡ true → next_is_local image m t ≡ true → ending_of image m ≡ None
  going_locally t goes local =
      let here = at_local image m t local in
      let parts = and_parts (is_none v.stop) (nat_lt v.steps v.limits.budget) goes in
      let left : not (nat_eq m.steps m.limits.budget) ≡ true = sym (steps_left image T v m good at) ∙ parts.1 in
      goes_on_locally image m t here (sym at.simulated.stands.stop ∙ none_of v.stop parts.0) (not_true (nat_eq m.steps m.limits.budget) left)

  -- and where the run goes on nothing did
  pub goes_where : ending_of image m ≡ None → goes_on v ≡ true
  goes_where going = by m.stop refl
    where
      by : (o : Option Ending) → m.stop ≡ o → goes_on v ≡ true
      by (Some x) stopped = let d : None ≡ Some x = sym going ∙ ap (ending_by image m) stopped in absurd (cc d)
      by None stopped = and_from (is_none v.stop) (nat_lt v.steps v.limits.budget) (ap is_none (at.simulated.stands.stop ∙ stopped)) (steps_left image T v m good at ∙ ap not (budget_open going))

-- engines that stand for one state go on alike
pub same_goes : (image : Image) (T : Typings) (v w : Vm) (m : Machine) → StandsFor image T v m → StandsFor image T w m → goes_on v ≡ goes_on w
same_goes image T v w m one other =
    let a = one.simulated.stands in
    let b = other.simulated.stands in
    let stop : v.stop ≡ w.stop = a.stop ∙ sym b.stop in
    let steps : v.steps ≡ w.steps = a.steps ∙ sym b.steps in
    let limits : v.limits ≡ w.limits = a.limits ∙ sym b.limits in
    λ j. is_none (stop j) && nat_lt (steps j) (limits j).budget
