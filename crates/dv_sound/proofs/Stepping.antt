-- A step of a thread that may step: the tagged one isn't stuck, and the engine stands where it leads.
use Rattle.std.proofs.Common.{◌≡◌, ◌<◌, ◌≤◌, ◌⊎◌, ◌^◌, ℕ, suc, Bool, true, Ok, Err, Result, sym, ap, ◌∙◌, subst, arith, inl, inr}
use Rattle.std.specs.Prelude.{◌&&◌, is_none, length, nat_lt}
use Rattle.std.proofs.lemmas.Bool.{and_parts, ltb-true}
use Rattle.dv_defs.specs.declared.run.Limits.{Limits}
use Rattle.dv_defs.specs.Images.{Image}
use Rattle.dv_machine.specs.State.{Machine}
use Rattle.dv_machine.specs.WellTyped.{Typings}
use Rattle.dv_words.specs.State.{WordMachine}
use Rattle.dv_words.specs.Step.{step}
use Rattle.law_words.specs.StepLaws.{ReadsFit}
use Rattle.law_engine.specs.Laws.{IsSimulated, IsSimulatedStep}
use Rattle.law_engine.proofs.Others.{steps_leave_others}
use Rattle.law_engine.proofs.Steps.{accepted_steps_follow}
use Rattle.dv_threads.specs.Kept.{HasRoom}
use Rattle.dv_words.specs.Running as words
use Rattle.dv_core.specs.declared.vm.Step.{Step}
use Rattle.dv_core.specs.declared.vm.Step.TheVariants.{Done, Held}
use Rattle.dv_core.specs.declared.vm.Vm.{Vm}
use Rattle.dv_core.specs.Guests.{IsOrdered}
use Rattle.dv_core.specs.Machines.{IsSteppable, machine_of}
use Rattle.dv_core.specs.Trying.{IsTried}
use Rattle.dv_core.proofs.Steppable.{steps_fit}
use Rattle.dv_sound.specs.Moves.{AreUsable, IsGood, IsKeptAt, StandsFor, Steps, goes_on, may_step}
use Rattle.dv_sound.proofs.Going.{few_stacks, may_is, may_parts}

-- counts within limits, of words
pub record IsWithin (w : WordMachine) : Type 0 where
  pub usable : AreUsable w.limits
  pub few : length w.threads ≤ w.limits.threads
  pub numbered : w.limits.threads < 2 ^ 32
  pub spent : w.steps ≤ w.limits.budget
  pub counted : w.limits.budget < 2 ^ 64

pub within : (image : Image) (T : Typings) (v : Vm) (m : Machine) → StandsFor image T v m → IsWithin (machine_of v)
within image T v m at = record { usable = at.usable; few = at.few; numbered = at.numbered; spent = at.spent; counted = at.counted }

-- an engine whose words are these stands where they do
pub stands_by : (image : Image) (T : Typings) (v : Vm) (w : WordMachine) (m : Machine) → machine_of v ≡ w → IsWithin w → IsSimulated image T w m → IsOrdered v.limits v.guest → StandsFor image T v m
stands_by image T v w m same is simulated ordered =
    let mine : IsWithin (machine_of v) = subst IsWithin (sym same) is in
    record {
      simulated = subst (λ (x : WordMachine). IsSimulated image T x m) (sym same) simulated;
      ordered = ordered;
      usable = mine.usable;
      few = mine.few;
      numbered = mine.numbered;
      spent = mine.spent;
      counted = mine.counted;
    }

-- want of memory
pub kept_by : (image : Image) (T : Typings) (m : Machine) (old new : Vm) → StandsFor image T old m → machine_of new ≡ machine_of old → IsOrdered old.limits new.guest → IsKeptAt image T m old new
kept_by image T m old new at same ordered =
    let limits : new.limits ≡ old.limits = ap (λ (w : WordMachine). w.limits) same in
    record {
      machine = same;
      stands = stands_by image T new (machine_of old) m same (within image T old m at) at.simulated (subst (λ (l : Limits). IsOrdered l new.guest) (sym limits) ordered);
    }

-- a step keeps the counts within the limits, where the budget isn't spent
within_after : (image : Image) (w : WordMachine) (t : ℕ) → IsWithin w → w.steps < w.limits.budget → IsWithin (step image w t)
within_after image w t is left =
    let kept = steps_leave_others image w t in
    let same : (step image w t).limits ≡ w.limits = kept.limits in
    record {
      usable = subst AreUsable (sym same) is.usable;
      few = subst (λ (l : Limits). length (step image w t).threads ≤ l.threads) (sym same) (kept.bounded is.few);
      numbered = subst (λ (l : Limits). l.threads < 2 ^ 32) (sym same) is.numbered;
      spent = subst (λ (l : Limits). (step image w t).steps ≤ l.budget) (sym same) (counted kept.steps);
      counted = subst (λ (l : Limits). l.budget < 2 ^ 64) (sym same) is.counted;
    }
  where
    counted : ((step image w t).steps ≡ w.steps) ⊎ ((step image w t).steps ≡ suc w.steps) → (step image w t).steps ≤ w.limits.budget
    counted (inl e) = omega (arith, e, left)
    counted (inr e) = omega (arith, e, left)

module _ (image : Image) (T : Typings) (old : Vm) (m : Machine) (t : ℕ) (good : IsGood image T) (at : StandsFor image T old m) (goes : goes_on old ≡ true) where
  room : HasRoom old.limits
  room = record { levels = let l = at.usable.levels in omega (arith, l); words = at.usable.words }

  left : old.steps < old.limits.budget
  left = ltb-true old.steps old.limits.budget (and_parts (is_none old.stop) (nat_lt old.steps old.limits.budget) goes).1

  pub steppable : IsSteppable image old t
  steppable =
      let less = left in
      let most = at.counted in
      steps_fit image T old m t good.accepted good.strings good.keys at.simulated at.ordered (few_stacks image T old m good at) room (omega (arith, less, most))

  -- whether the thread may step
  may_be : words.runnable image (machine_of old) t ≡ may_step image m t
  may_be = sym (ap (λ (b : Bool). b && words.runnable image (machine_of old) t) goes) ∙ may_is image T old m good at t

  module _ (new : Vm) (reads : ReadsFit (machine_of old) t) where
    followed : may_step image m t ≡ true → IsSimulatedStep image T (machine_of old) m t
    followed may = let parts = may_parts image m t may in accepted_steps_follow image T (machine_of old) m t good.accepted good.strings reads at.simulated parts.0 parts.1

    pub stepped : {E : Type 0} (r : Result Step E) → IsTried r (words.runnable image (machine_of old) t) old new (step image (machine_of old) t) → Steps r image T m t old new
    stepped (Ok Done) is =
        let may = sym may_be ∙ is.0 in
        let after = followed may in
        let limits : new.limits ≡ old.limits = ap (λ (w : WordMachine). w.limits) is.1 ∙ (steps_leave_others image (machine_of old) t).limits in (
          may,
          record {
            after = after.after;
            steps = after.stepped;
            limits = sym after.simulated.stands.limits ∙ (steps_leave_others image (machine_of old) t).limits ∙ at.simulated.stands.limits;
            stands =
                stands_by image T new (step image (machine_of old) t) after.after is.1 (within_after image (machine_of old) t (within image T old m at) left) after.simulated
                (subst (λ (l : Limits). IsOrdered l new.guest) (sym limits) is.2);
          },
        )
    stepped (Ok Held) is = (sym may_be ∙ is.0, kept_by image T m old new at is.1 is.2)
    stepped (Err memory) is = kept_by image T m old new at is.0 is.1
