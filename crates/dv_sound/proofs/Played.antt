-- An engine that a schedule leads.
use Rattle.std.proofs.Common.{◌≡◌, ◌<◌, ◌≤◌, ◌+◌, ◌-◌, ℕ, zero, suc, Bool, true, false, Option, Some, None, Ok, List, ◌∷◌, refl, sym, ap, ◌∙◌, subst, arith}
use Rattle.std.specs.Prelude.{◌&&◌, is_none}
use Rattle.dv_defs.specs.declared.run.Ending.{Ending}
use Rattle.dv_defs.specs.declared.run.Entry.{Entry}
use Rattle.dv_defs.specs.Images.{Image}
use Rattle.dv_machine.specs.Replaying.{NotRunnable, PastEnd, Replayed, Stands, Wrong, on_stands, one_step, replay_from, stands_on, steps_of}
use Rattle.dv_machine.specs.Running.{ending_of, runnable}
use Rattle.dv_machine.specs.State.{Machine}
use Rattle.dv_machine.specs.Step.{step}
use Rattle.dv_machine.specs.WellTyped.{Typings}
use Rattle.law_engine.proofs.Replays.{step_done, steps_after}
use Rattle.dv_core.specs.declared.vm.Vm.{Vm}
use Rattle.dv_sound.specs.declared.error.ReplayError.{ReplayError}
use Rattle.dv_sound.specs.declared.error.ReplayError.TheVariants as error
use Rattle.dv_sound.specs.Moves.{IsGood, IsRun, IsStep, StandsFor, may_step}
use Rattle.dv_sound.specs.Replays.{IsLed, Refuses, StopsBefore}
use Rattle.dv_sound.proofs.Going.{may_parts}

-- ---- a step of an entry

abbrev by_may : Image → ℕ → ℕ → Machine → Bool → Replayed
by_may image k t m b = elim b [ true ↦ stands_on (step image m t) | false ↦ NotRunnable k ]

abbrev by_ending : Image → ℕ → ℕ → Machine → Option Ending → Replayed
by_ending image k t m o = elim o [ Some e ↦ PastEnd k | None ↦ by_may image k t m (runnable image m t) ]

module _ (image : Image) (k t : ℕ) (m : Machine) where
  pub one_past : (e : Ending) → ending_of image m ≡ Some e → one_step image k t m ≡ PastEnd k
  one_past e is = ap (by_ending image k t m) is

  pub one_held : ending_of image m ≡ None → may_step image m t ≡ false → one_step image k t m ≡ NotRunnable k
  one_held none may = ap (by_ending image k t m) none ∙ ap (by_may image k t m) (sym (ap (λ (o : Option Ending). is_none o && runnable image m t) none) ∙ may)

  pub one_done : (n : Machine) → may_step image m t ≡ true → step image m t ≡ Ok n → one_step image k t m ≡ Stands n
  one_done n may is = let parts = may_parts image m t may in step_done image k t m n parts.0 parts.1 is

-- they are told
pub past_told : (k : ℕ) (r : Replayed) → r ≡ PastEnd k → Refuses (error.Long k) r
past_told k r is = subst (Refuses (error.Long k)) (sym is) refl

pub held_told : (k : ℕ) (r : Replayed) → r ≡ NotRunnable k → Refuses (error.NotRunnable k) r
held_told k r is = subst (Refuses (error.NotRunnable k)) (sym is) refl

-- ---- the steps of an entry

-- what refuses a first part refuses the whole
pub refused_on : (e : ReplayError) (r : Replayed) (go : Machine → Replayed) → Refuses e r → Refuses e (on_stands r go)
refused_on (error.NotRunnable k) (Stands m) go is = absurd is
refused_on (error.NotRunnable k) (NotRunnable j) go is = is
refused_on (error.NotRunnable k) (PastEnd j) go is = absurd is
refused_on (error.NotRunnable k) (Wrong y) go is = absurd is
refused_on (error.Long k) (Stands m) go is = absurd is
refused_on (error.Long k) (NotRunnable j) go is = absurd is
refused_on (error.Long k) (PastEnd j) go is = is
refused_on (error.Long k) (Wrong y) go is = absurd is
refused_on (error.Short k) (Stands m) go is = absurd is
refused_on (error.Short k) (NotRunnable j) go is = absurd is
refused_on (error.Short k) (PastEnd j) go is = absurd is
refused_on (error.Short k) (Wrong y) go is = absurd is
refused_on (error.Memory x) r go is = tt

pub refused_steps : (image : Image) (k t n : ℕ) (m : Machine) (e : ReplayError) → 0 < n → Refuses e (one_step image k t m) → Refuses e (steps_of image k t n m)
refused_steps image k t zero m e some is = absurd (omega (arith, some))
refused_steps image k t (suc n) m e some is = refused_on e (one_step image k t m) (steps_of image k t n) is

-- no step leaves the state
pub no_steps : (image : Image) (k t : ℕ) (m n : Machine) → steps_of image k t 0 m ≡ Stands n → m ≡ n
no_steps image k t m n e = cc

-- no local step was done, so the engine stands where it stood
pub still : (image : Image) (T : Typings) (m : Machine) (k t most done : ℕ) (mid : Vm) → done ≡ 0 → IsRun image T m t most done mid → StandsFor image T mid m
still image T m k t most done mid none r =
    let before : m ≡ r.after = no_steps image k t m r.after (subst (λ n. steps_of image k t n m ≡ Stands r.after) none (r.steps k)) in
    subst (λ (x : Machine). StandsFor image T mid x) (sym before) r.stands

-- one step was done
pub led_one : (image : Image) (T : Typings) (k t : ℕ) (m : Machine) (new : Vm) → may_step image m t ≡ true → IsStep image T m t new → IsLed image T m (steps_of image k t 1 m) new
led_one image T k t m new may s = record { after = s.after; leads = ap (λ (r : Replayed). on_stands r (steps_of image k t 0)) (one_done image k t m s.after may s.steps); stands = s.stands; limits = s.limits }

pub led_run : (image : Image) (T : Typings) (k t most done : ℕ) (m : Machine) (new : Vm) → IsRun image T m t most done new → IsLed image T m (steps_of image k t done m) new
led_run image T k t most done m new r = record { after = r.after; leads = r.steps k; stands = r.stands; limits = r.limits }

-- ---- while the steps of an entry are done

-- so many steps are left, which lead from where the engine stands to where all lead
pub record IsLeft (image : Image) (T : Typings) (m : Machine) (whole : Replayed) (rest : Machine → Replayed) (now : Vm) : Type 0 where
  pub at : Machine
  pub stands : StandsFor image T now at
  pub same : whole ≡ rest at
  pub limits : at.limits ≡ m.limits

abbrev pub Lefts : Image → Vm → Vm → (Machine → Replayed) → (Machine → Replayed) → Type 0
Lefts image first now whole rest = (T : Typings) (m : Machine) → IsGood image T → StandsFor image T first m → IsLeft image T m (whole m) rest now

pub left_first : (image : Image) (first : Vm) (whole : Machine → Replayed) → Lefts image first first whole whole
left_first image first whole T m good at = record { at = m; stands = at; same = refl; limits = refl }

pub left_on : (image : Image) (first now new : Vm) (whole : Machine → Replayed) (k t n left : ℕ) → n ≤ left → Lefts image first now whole (steps_of image k t left) →
    ((T : Typings) (m : Machine) → IsGood image T → StandsFor image T now m → IsLed image T m (steps_of image k t n m) new) → Lefts image first new whole (steps_of image k t (left - n))
left_on image first now new whole k t n left few lefts leds T m good at =
    let l = lefts T m good at in
    let d = leds T l.at good l.stands in
    let split : n + (left - n) ≡ left = (let x = few in omega (arith, x)) in
    record {
      at = d.after;
      stands = d.stands;
      limits = d.limits ∙ l.limits;
      same = l.same ∙ ap (λ j. steps_of image k t j l.at) (sym split) ∙ steps_after image k t n (left - n) l.at ∙ ap (λ (r : Replayed). on_stands r (steps_of image k t (left - n))) d.leads;
    }

-- the next entry
pub left_entry : (image : Image) (first now new : Vm) (whole : Machine → Replayed) (k : ℕ) (e : Entry) (es : List Entry) → Lefts image first now whole (replay_from image k (e ∷ es)) →
    ((T : Typings) (m : Machine) → IsGood image T → StandsFor image T now m → IsLed image T m (steps_of image k e.thread e.steps m) new) → Lefts image first new whole (replay_from image (suc k) es)
left_entry image first now new whole k e es lefts leds T m good at =
    let l = lefts T m good at in
    let d = leds T l.at good l.stands in
    record { at = d.after; stands = d.stands; same = l.same ∙ ap (λ (r : Replayed). on_stands r (replay_from image (suc k) es)) d.leads; limits = d.limits ∙ l.limits }

-- what is refused on the way refuses the whole
pub left_refused : (image : Image) (first now : Vm) (whole rest : Machine → Replayed) (e : ReplayError) → Lefts image first now whole rest →
    ((T : Typings) (m : Machine) → IsGood image T → StandsFor image T now m → Refuses e (rest m)) → (T : Typings) (m : Machine) → IsGood image T → StandsFor image T first m → Refuses e (whole m)
left_refused image first now whole rest e lefts refuses T m good at =
    let l = lefts T m good at in
    subst (Refuses e) (sym l.same) (refuses T l.at good l.stands)

-- ---- to an ending

pub stops_refused : (image : Image) (log : List Entry) (m : Machine) (e : ReplayError) → Refuses e (replay_from image 0 log m) → StopsBefore e image log m
stops_refused image log m (error.NotRunnable k) is = is
stops_refused image log m (error.Long k) is = is
stops_refused image log m (error.Memory x) is = is
stops_refused image log m (error.Short k) is = absurd (never (replay_from image 0 log m) is)
  where
    never : (r : Replayed) → Refuses (error.Short k) r → ⊥
    never (Stands m) is = absurd is
    never (NotRunnable j) is = absurd is
    never (PastEnd j) is = absurd is
    never (Wrong y) is = absurd is
