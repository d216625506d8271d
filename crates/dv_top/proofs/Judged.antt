-- Where a text is refused.
use Rattle.std.proofs.Common.{◌≡◌, ℕ, ◌≤◌, ◌↔◌, List, length, Result, ap, arith, subst}
use Rattle.dv_defs.specs.declared.run.Entry.{Entry}
use Rattle.dv_defs.specs.declared.run.Limits.{Limits}
use Rattle.dv_typing.specs.Accepting.{Accepts}
use Rattle.dv_defs.specs.Pools.{Method}
use Rattle.dv_console.specs.declared.command.Cmd.TheVariants as cmd
use Rattle.dv_console.specs.declared.refusals.Refusal.{Refusal}
use Rattle.dv_top.specs.declared.closing.Closing.TheVariants as closing
use Rattle.dv_top.specs.declared.program.Program.{Program}
use Rattle.dv_top.specs.declared.status.Status.TheVariants as exit
use Rattle.dv_top.specs.Laws.{HasRefusedSchedule, IsJudged, ReplaysAreJudged, RunsAreJudged, VerdictsAreExact}
use Rattle.dv_top.specs.Programs.{program_to_replay, program_to_run}
use Rattle.dv_top.specs.Runs.{IsRun}
use Rattle.dv_top.specs.Said.{IsAccepted, IsSaidOfNoRun, IsSaidOfReplay, IsSaidOfRun, NoProgram, NotReplayed, NotRun, Ran, Refused, Replayed, ScheduleRefused, TooLarge, text_limit}
use Rattle.dv_top.specs.Status.{code_of}
use Rattle.dv_top.proofs.AnsweringLemmas.{large_or_small, ok_or_err}
use Rattle.dv_top.proofs.RunLemmas.{not_refused, run_status}
use Rattle.dv_top.proofs.SaidOnce.{run_moved, run_or_not, said_of_asked, said_of_run, same_main, same_program}
use Rattle.dv_top.proofs.VerifyingLemmas.{is_verdict}

pub verdicts_are_exact : VerdictsAreExact
verdicts_are_exact asked bytes log status text is few said = is_verdict bytes status text few (said_of_asked asked cmd.Verify bytes log status text is said)

module _ (bytes : List ℕ) (found : Result Program Refusal) where
  not_run_judged : (status : ℕ) (text : List ℕ) → length bytes ≤ text_limit → IsSaidOfNoRun bytes found status text → IsJudged found status
  not_run_judged status text few (TooLarge many r) = absurd (large_or_small _ many few)
  not_run_judged status text few (NoProgram _ why none r) =
      let told = r.0 in
      record {
        no_program = (λ _. (why, none), λ _. told);
        refused = (λ e. absurd (omega arith), λ (p, gives, broken). absurd (ok_or_err found p why gives none));
      }
  not_run_judged status text few (Refused _ p gives broken fs are r) =
      let told = r.0 in
      record {
        no_program = (λ e. absurd (omega arith), λ (why, none). absurd (ok_or_err found p why gives none));
        refused = (λ _. (p, gives, broken), λ _. told);
      }

  -- a program that is accepted isn't refused
  accepted_judged : (status : ℕ) (p : Program) (main : Method) → IsAccepted bytes found p main → (status ≡ code_of exit.BadText → ⊥) → (status ≡ code_of exit.Refused → ⊥) → IsJudged found status
  accepted_judged status p main is good-text good =
      record {
        no_program = (λ e. absurd (good-text e), λ (why, none). absurd (ok_or_err found p why is.program none));
        refused = (λ e. absurd (good e), λ (q, gives, broken). absurd (broken (subst (λ (x : Program). Accepts x.image) (same_program bytes found p q is.program gives) is.accepted)));
      }

pub runs_are_judged : RunsAreJudged
runs_are_judged asked bytes log status text r is few said = by (said_of_run asked r bytes log status text is said)
  where
    by : IsSaidOfRun bytes (program_to_run r.class bytes) r.seed r.limits r.behind log status text → IsJudged (program_to_run r.class bytes) status
    by (NotRun reply) = not_run_judged bytes (program_to_run r.class bytes) status text few reply
    by (Ran p main accepted turns run) =
        let ran = run_status p.image main r.limits log r.behind status text run in
        accepted_judged bytes (program_to_run r.class bytes) status p main accepted ran.good_text ran.accepted

module _ (bytes : List ℕ) (found : Result Program Refusal) (limits : Limits) (few : length bytes ≤ text_limit) where
  not_scheduled : (status : ℕ) (text : List ℕ) → IsSaidOfNoRun bytes found status text → status ≡ code_of exit.Schedule → ⊥
  not_scheduled status text (TooLarge many r) e = large_or_small _ many few
  not_scheduled status text (NoProgram _ why none r) e = absurd (omega (arith, r.0, e))
  not_scheduled status text (Refused _ p gives broken fs are r) e = absurd (omega (arith, r.0, e))

  -- a schedule that is run isn't refused
  ran_on : (p : Program) (main : Method) (status : ℕ) (text : List ℕ) → IsAccepted bytes found p main → IsRun p.image main limits p.schedule closing.Nothing status text → HasRefusedSchedule bytes found limits → ⊥
  ran_on p main status text is r h =
      let same = same_program bytes found p h.program is.program h.accepted.program in
      let mains = same_main bytes found p h.program main h.main same is h.accepted in
      let moved = run_moved p h.program main h.main limits p.schedule h.program.schedule closing.Nothing status text same mains (ap (λ (x : Program). x.schedule) same) r in
      not_refused h.program.image h.main limits h.program.schedule closing.Nothing status text h.line moved h.refused

  replay_judged : (log : List Entry) (status : ℕ) (text : List ℕ) → IsSaidOfReplay bytes found limits log status text → IsJudged found status × ((status ≡ code_of exit.Schedule) ↔ HasRefusedSchedule bytes found limits)
  replay_judged log status text (NotReplayed r) =
      (not_run_judged bytes found status text few r, (λ e. absurd (not_scheduled status text r e), λ h. absurd (run_or_not bytes found status text h.program h.main r h.accepted)))
  replay_judged log status text (ScheduleRefused p main is line refused r) =
      let told = r.0 in (
        accepted_judged bytes found status p main is (λ e. absurd (omega (arith, told, e))) (λ e. absurd (omega (arith, told, e))),
        (λ _. record { program = p; main = main; accepted = is; line = line; refused = refused }, λ _. told),
      )
  replay_judged log status text (Replayed p main is given r) =
      let ran = run_status p.image main limits p.schedule closing.Nothing status text r in (
        accepted_judged bytes found status p main is ran.good_text ran.accepted,
        (λ e. absurd (ran.scheduled e), λ h. absurd (ran_on p main status text is r h)),
      )

pub replays_are_judged : ReplaysAreJudged
replays_are_judged asked bytes log status text class limits is few said =
    replay_judged bytes (program_to_replay class bytes) limits few log status text (said_of_asked asked (cmd.Replay class limits) bytes log status text is said)
