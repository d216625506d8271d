-- A turn that is tried.
use Rattle.std.proofs.Common.{◌≡◌, ◌≤◌, ◌<◌, ◌+◌, ℕ, zero, suc, true, None, Ok, Err, List, refl, sym, ap, ◌∙◌, subst, arith}
use Rattle.std.specs.Prelude.{is_none, nat_lt}
use Rattle.std.proofs.lemmas.Bool.{and_parts}
use Rattle.dv_defs.specs.declared.run.Entry.{Entry}
use Rattle.dv_defs.specs.declared.run.Limits.{Limits}
use Rattle.dv_defs.specs.Images.{Image}
use Rattle.dv_defs.specs.Pools.{Method}
use Rattle.dv_machine.specs.Replaying.{Stands, Turned, last_step, replay, steps_of}
use Rattle.dv_machine.specs.State.{Machine, Reads, on_next}
use Rattle.dv_machine.specs.Step.{step}
use Rattle.dv_machine.specs.WellTyped.{Typings}
use Rattle.dv_words.specs.Running as words
use Rattle.law_engine.proofs.Turns.{turns_replay}
use Rattle.dv_core.specs.declared.vm.Vm.{Vm}
use Rattle.dv_core.specs.Machines.{machine_of}
use Rattle.dv_sound.specs.Lending.{IsDone, logged_some}
use Rattle.dv_sound.specs.Moves.{IsGood, IsKeptAt, IsLast, IsRun, KeepsOthers, StandsFor, goes_on, may_step}
use Rattle.dv_sound.specs.Runs.{IsAt, IsKept, Run, logged}
use Rattle.dv_sound.specs.Trying.{IsLedBy}
use Rattle.dv_sound.proofs.Going.{may_is, may_parts, none_of}
use Rattle.dv_sound.proofs.Keeping.{machine_is, main_is, run_with}
use Rattle.dv_sound.proofs.Lent.{brought}
use Rattle.dv_sound.proofs.Others.{keeps_same, keeps_then}
use Rattle.dv_sound.proofs.Played.{no_steps}
use Rattle.dv_sound.proofs.Turning.{by_ending, by_may, mixed_turn}

-- a thread that may step does one as the last of a turn
abbrev count_in : Reads Turned → ℕ
count_in (Ok x) = x.count
count_in (Err y) = 0

counted : (image : Image) (t : ℕ) (x : Machine) (n : ℕ) → may_step image x t ≡ true → (y : Machine) → last_step image t x ≡ Ok (record { count = n; machine = y }) → 1 ≤ n
counted image t x n may y is =
    by (step image x t) (sym (ap (by_ending image t x) (may_parts image x t may).0 ∙ ap (by_may image t x) (may_parts image x t may).1) ∙ is)
  where
    by : (s : Reads Machine) → on_next s (λ k. let z : Reads Turned = Ok (record { count = 1; machine = k }) in z) ≡ Ok (record { count = n; machine = y }) → 1 ≤ n
    by (Ok k) e = let same : 1 ≡ n = ap count_in e in omega (arith, same)
    by (Err w) e = absurd (cc e)

module _ (image : Image) (T : Typings) (m : Machine) (good : IsGood image T) (old : Vm) (at : StandsFor image T old m) (t : ℕ) where
  pub goes_where_may : may_step image m t ≡ true → goes_on old ≡ true
  goes_where_may may = (and_parts (goes_on old) (words.runnable image (machine_of old) t) (may_is image T old m good at t ∙ may)).0

  unstopped : goes_on old ≡ true → m.stop ≡ None
  unstopped goes = sym at.simulated.stands.stop ∙ none_of old.stop (and_parts (is_none old.stop) (nat_lt old.steps old.limits.budget) goes).0

  -- no step
  pub done_none : IsDone image T m t 0 old old
  done_none = record { after = m; steps = λ k. refl; stands = at; limits = refl; others = keeps_same t old old refl }

  -- local steps alone
  pub done_locally : (most done : ℕ) (new : Vm) → IsRun image T m t most done new → KeepsOthers t old new → IsDone image T m t done old new
  done_locally most done new r others = record {
    after = r.after;
    steps = r.steps;
    stands = r.stands;
    limits = r.stands.simulated.stands.limits ∙ r.limits ∙ sym at.simulated.stands.limits;
    others = others;
  }

  module _ (most done : ℕ) (mid new : Vm) (r : IsRun image T m t most done mid) (first : KeepsOthers t old mid) where
    -- and at most one other
    pub done_and_last : (n : ℕ) → done < most → goes_on old ≡ true → IsLast image T r.after t n new → KeepsOthers t mid new → IsDone image T m t (done + n) old new
    done_and_last n less goes l others =
        let turned = mixed_turn image T m t most mid new done n less r l in
        record {
          after = turned.after;
          steps = λ k. turns_replay image m (record { count = done + n; machine = turned.after }) t most k (unstopped goes) turned.turned;
          stands = turned.stands;
          limits = l.stands.simulated.stands.limits ∙ l.limits ∙ r.limits ∙ sym at.simulated.stands.limits;
          others = keeps_then t old mid new first others;
        }

    -- and one for which memory was wanting
    pub done_but_last : IsKeptAt image T r.after mid new → IsDone image T m t done old new
    done_but_last kept = record {
      after = r.after;
      steps = r.steps;
      stands = kept.stands;
      limits = kept.stands.simulated.stands.limits ∙ r.limits ∙ sym at.simulated.stands.limits;
      others = keeps_then t old mid new first (keeps_same t mid new kept.machine);
    }

    -- a thread that may step does one
    pub some_done : (n : ℕ) → may_step image m t ≡ true → IsLast image T r.after t n new → 1 ≤ done + n
    some_done n may l = by done refl
      where
        by : (j : ℕ) → done ≡ j → 1 ≤ done + n
        by zero e =
            let before : m ≡ r.after = no_steps image 0 t m r.after (subst (λ k. steps_of image 0 t k m ≡ Stands r.after) e (r.steps 0)) in
            let one = counted image t r.after n (subst (λ (x : Machine). may_step image x t ≡ true) before may) l.after l.last in
            omega (arith, one)
        by (suc j) e = omega (arith, e)

-- ---- from where a log led

-- some steps are logged
pub logged_all : (log : List Entry) (worker t n : ℕ) → 1 ≤ n → logged_some log worker t n ≡ logged log worker t n
logged_all log worker t zero some = absurd (omega (arith, some))
logged_all log worker t (suc n) some = refl

module _ (r : Run) (v new : Vm) (k : IsKept r.verified.image r.main v r.log r.lent) (same : machine_of v ≡ r.machine) (worker t n : ℕ) (d : IsDone r.verified.image k.typings k.machine t n v new) (after : List Entry) (logs : after ≡ logged_some r.log worker t n) where
  pub run_led : (main : Method) (m : Machine) → IsAt r main m → IsLedBy r (run_with r new after) main m t n
  run_led main m at =
      let machine : k.machine ≡ m = machine_is r v k same main m at in
      let method : k.has_main.method ≡ main = main_is r v k same main m at in
      record {
        after = d.after;
        steps = λ j. subst (λ (x : Machine). steps_of r.verified.image j t n x ≡ Stands d.after) machine (d.steps j);
        at = record {
          main_is = at.main_is;
          replayed = ap (λ (l : Limits). replay r.verified.image main l after) d.limits ∙ subst (λ (x : Method). replay r.verified.image x v.limits after ≡ Stands d.after) method (brought r.verified.image r.main v r.log r.lent k worker t n new d after logs);
        };
      }
