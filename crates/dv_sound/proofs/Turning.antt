-- Turns: local steps, and then at most one other.
use Rattle.std.proofs.Common.{◌≡◌, ◌≢◌, ◌<◌, ◌+◌, ◌-◌, ℕ, zero, suc, Bool, true, false, Option, Some, None, Result, Ok, Err, List, [], ◌∷◌, refl, sym, ap, ◌∙◌, subst, arith}
use Rattle.std.specs.Prelude.{◌&&◌, IsErr, is_none, nat_eq, not, slice_get, if◌then◌else◌}
use Rattle.std.proofs.lemmas.Bool.{and_from, and_left, and_parts, true≢false}
use Rattle.dv_defs.specs.declared.machine.End.{End}
use Rattle.dv_defs.specs.declared.machine.End.TheVariants as end
use Rattle.dv_defs.specs.declared.run.Ending.{Ending}
use Rattle.dv_defs.specs.Images.{Image}
use Rattle.dv_machine.specs.Replaying.{Turned, is_running, last_step, next_is_local, one_more, turn}
use Rattle.dv_machine.specs.Running.{ending_of, runnable}
use Rattle.dv_machine.specs.State.{Machine, Reads, on_next}
use Rattle.dv_machine.specs.Step.{step}
use Rattle.dv_machine.specs.WellTyped.{Typings}
use Rattle.dv_words.specs.declared.state.Frame.{Frame}
use Rattle.dv_words.specs.declared.state.Level.{Level}
use Rattle.dv_words.specs.declared.state.Level.TheVariants as level
use Rattle.dv_words.specs.State.{WordMachine, WordThread}
use Rattle.law_engine.specs.KeepLaws.{next_is_local_of}
use Rattle.law_engine.specs.TurnLaws.{more}
use Rattle.law_engine.proofs.Staying.{next_is_alike}
use Rattle.dv_core.specs.declared.vm.Vm.{Vm}
use Rattle.dv_core.specs.Advancing.{RunsFrame, running_frame, top_frame}
use Rattle.dv_core.specs.Machines.{machine_of}
use Rattle.dv_sound.specs.Moves.{IsGood, IsKeptAt, IsLast, IsRun, IsTurn, Lasts, StandsFor, Turns, goes_locally, may_step}
use Rattle.dv_sound.proofs.Going.{budget_open, may_parts}
use Rattle.dv_sound.proofs.LocalRuns.{none_local}

-- ---- the last step

abbrev pub by_may : Image → ℕ → Machine → Bool → Reads Turned
by_may image t m b = elim b [ false ↦ Ok (record { count = 0; machine = m }) | true ↦ on_next (step image m t) (λ n. Ok (record { count = 1; machine = n })) ]

abbrev pub by_ending : Image → ℕ → Machine → Option Ending → Reads Turned
by_ending image t m o = elim o [ Some e ↦ Ok (record { count = 0; machine = m }) | None ↦ by_may image t m (runnable image m t) ]

pub last_none : (image : Image) (m : Machine) (t : ℕ) → may_step image m t ≡ false → last_step image t m ≡ Ok (record { count = 0; machine = m })
last_none image m t e = by (ending_of image m) (runnable image m t) refl refl e
  where
    by : (o : Option Ending) (b : Bool) → ending_of image m ≡ o → runnable image m t ≡ b → (is_none (ending_of image m) && runnable image m t) ≡ false → last_step image t m ≡ Ok (record { count = 0; machine = m })
    by (Some x) b is may both = ap (by_ending image t m) is
    by None false is may both = ap (by_ending image t m) is ∙ ap (by_may image t m) may
    by None true is may both = absurd (let d : true ≡ false = sym (ap (λ x. is_none x && runnable image m t) is ∙ may) ∙ both in cc d)

pub last_some : (image : Image) (m n : Machine) (t : ℕ) → may_step image m t ≡ true → step image m t ≡ Ok n → last_step image t m ≡ Ok (record { count = 1; machine = n })
last_some image m n t may is =
    let parts = may_parts image m t may in
    ap (by_ending image t m) parts.0 ∙ ap (by_may image t m) parts.1 ∙ ap (λ (r : Reads Machine). on_next r (λ k. let x : Reads Turned = Ok (record { count = 1; machine = k }) in x)) is

-- want of memory
pub err_last : {E : Type 0} (image : Image) (T : Typings) (m : Machine) (t : ℕ) (old new : Vm) (r : Result ℕ E) → IsErr r → IsKeptAt image T m old new → Lasts r image T m t old new
err_last image T m t old new (Ok n) is kept = absurd (cc is)
err_last image T m t old new (Err x) is kept = kept

-- ---- a turn

abbrev by_local : Image → ℕ → ℕ → Machine → Bool → Reads Turned
by_local image t most m b = elim b [ true ↦ on_next (step image m t) (λ n. one_more (turn image t most n)) | false ↦ last_step image t m ]

-- where the next step isn't local it is the last one
pub turn_last : (image : Image) (t most : ℕ) (m : Machine) → 0 < most → goes_locally image t m ≡ false → turn image t most m ≡ last_step image t m
turn_last image t zero m some e = absurd (omega (arith, some))
turn_last image t (suc most) m some e = ap (by_local image t most m) e

module _ (image : Image) (T : Typings) (m : Machine) (t most : ℕ) where
  pub last_turn : (n : ℕ) (new : Vm) → 0 < most → goes_locally image t m ≡ false → IsLast image T m t n new → IsTurn image T m t most n new
  last_turn n new some e l = record { after = l.after; turned = turn_last image t most m some e ∙ l.last; stands = l.stands }

  pub last_turned : {E : Type 0} (old new : Vm) (r : Result ℕ E) → 0 < most → goes_locally image t m ≡ false → Lasts r image T m t old new → Turns r image T m t most old new
  last_turned old new (Ok n) some e l = last_turn n new some e l
  last_turned old new (Err x) some e l = l

  pub no_turn : (new : Vm) → most ≡ 0 → StandsFor image T new m → IsTurn image T m t most 0 new
  no_turn new none at = record { after = m; turned = ap (λ n. turn image t n m) none; stands = at }

  -- all that may be done were local
  pub whole_turn : (new : Vm) (done : ℕ) → done ≡ most → IsRun image T m t most done new → IsTurn image T m t most done new
  whole_turn new done all r =
      let zero_more : done + 0 ≡ done = omega arith in
      record {
        after = r.after;
        turned = ap (λ n. turn image t n m) (sym all ∙ sym zero_more) ∙ r.turns 0 ∙ ap (λ n. let x : Reads Turned = Ok (record { count = n; machine = r.after }) in x) zero_more;
        stands = r.stands;
      }

  -- the local ones and one other, or none
  pub mixed_turn : (mid new : Vm) (done n : ℕ) → done < most → (r : IsRun image T m t most done mid) → IsLast image T r.after t n new → IsTurn image T m t most (done + n) new
  mixed_turn mid new done n less r l =
      let split : done + (most - done) ≡ most = (let x = less in omega (arith, x)) in
      let some : 0 < most - done = (let x = less in omega (arith, x)) in
      record {
        after = l.after;
        turned = ap (λ k. turn image t k m) (sym split) ∙ r.turns (most - done) ∙ ap (more done) (turn_last image t (most - done) r.after some (r.whole less) ∙ l.last);
        stands = l.stands;
      }

-- ---- the frame that goes on

-- a thread that is at a frame
pub record IsRunning (w : WordMachine) (t : ℕ) (f : Frame) : Type 0 where
  pub own : WordThread
  pub rest : List Level
  pub runs : RunsFrame w t own f rest

pub running : (w : WordMachine) (t : ℕ) (f : Frame) → running_frame (slice_get w.threads t) ≡ Some f → IsRunning w t f
running w t f e = by (slice_get w.threads t) refl e
  where
    by_levels : (ls : List Level) (o : ℕ) → slice_get w.threads t ≡ Some (record { levels = ls; end = end.Living; object = o }) → top_frame ls ≡ Some f → IsRunning w t f
    by_levels [] o there e = absurd (cc e)
    by_levels (level.Init c r ∷ ls) o there e = absurd (cc e)
    by_levels (level.Code g ∷ ls) o there e =
        let same : g ≡ f = cc in
        subst (λ (x : Frame). IsRunning w t x) same (record { own = record { levels = level.Code g ∷ ls; end = end.Living; object = o }; rest = ls; runs = record { there = there; living = refl; levels = refl } })

    by_end : (x : End) (ls : List Level) (o : ℕ) → slice_get w.threads t ≡ Some (record { levels = ls; end = x; object = o }) → (if is_running x then top_frame ls else None) ≡ Some f → IsRunning w t f
    by_end end.Living ls o there e = by_levels ls o there e
    by_end (end.Flying p) ls o there e = absurd (cc e)
    by_end end.Returned ls o there e = absurd (cc e)
    by_end (end.Died p) ls o there e = absurd (cc e)

    by : (o : Option WordThread) → slice_get w.threads t ≡ o → running_frame o ≡ Some f → IsRunning w t f
    by None there e = absurd (cc e)
    by (Some th) there e = by_end th.end th.levels th.object there e

-- where the next step is local there is one
pub not_none : (image : Image) (T : Typings) (v : Vm) (m : Machine) (t : ℕ) → StandsFor image T v m → goes_locally image t m ≡ true → running_frame (slice_get (machine_of v).threads t) ≢ None
not_none image T v m t at goes none =
    let local = (and_parts (next_is_local image m t) (not (nat_eq m.steps m.limits.budget)) goes).0 in
    true≢false (sym local ∙ sym (next_is_alike image T (machine_of v) m t at.simulated) ∙ none_local image (slice_get (machine_of v).threads t) none)

-- ---- which way a turn goes

-- what the words tell of the next step, where the run goes on
module _ (image : Image) (T : Typings) (v : Vm) (m : Machine) (t : ℕ) (good : IsGood image T) (at : StandsFor image T v m) (may : may_step image m t ≡ true) where
  open_budget : nat_eq m.steps m.limits.budget ≡ false
  open_budget = budget_open image T v m good at (may_parts image m t may).0

  pub goes_there : next_is_local_of image (machine_of v) t ≡ true → goes_locally image t m ≡ true
  goes_there e = and_from (next_is_local image m t) (not (nat_eq m.steps m.limits.budget)) (sym (next_is_alike image T (machine_of v) m t at.simulated) ∙ e) (ap not open_budget)

  pub stays_there : next_is_local_of image (machine_of v) t ≡ false → goes_locally image t m ≡ false
  stays_there e = and_left (next_is_local image m t) (not (nat_eq m.steps m.limits.budget)) (sym (next_is_alike image T (machine_of v) m t at.simulated) ∙ e)
