-- Runs: their statuses, their turns, and schedules that are refused.
use Rattle.std.proofs.Common.{◌≡◌, ◌≢◌, ℕ, ◌≤◌, List, [], length, append-nil, Option, Some, None, Ok, inl, inr, arith, ap, sym, subst, ◌∙◌}
use Rattle.dv_defs.specs.declared.machine.End.{End}
use Rattle.dv_defs.specs.declared.machine.End.TheVariants as end
use Rattle.dv_defs.specs.declared.names.MethodId.{MethodId}
use Rattle.dv_defs.specs.declared.run.Ending.{Ending}
use Rattle.dv_defs.specs.declared.run.Ending.TheVariants as ending
use Rattle.dv_defs.specs.declared.run.Entry.{Entry}
use Rattle.dv_defs.specs.declared.run.Limits.{Limits}
use Rattle.dv_defs.specs.Images.{Image}
use Rattle.dv_defs.specs.Pools.{Method, method_at}
use Rattle.dv_machine.specs.Replaying.{IsShort, NotRunnable, PastEnd, Replayed, Stands, Wrong, replay}
use Rattle.dv_rules.specs.Verified.{VerifiedValue}
use Rattle.dv_sound.specs.declared.error.ReplayError.{ReplayError}
use Rattle.dv_sound.specs.declared.error.ReplayError.TheVariants as error
use Rattle.dv_sound.specs.Replays.{IsRefused, Refuses}
use Rattle.dv_top.specs.declared.closing.Closing.{Closing}
use Rattle.dv_top.specs.declared.closing.Closing.TheVariants as closing
use Rattle.dv_top.specs.declared.status.Status.TheVariants as exit
use Rattle.dv_top.specs.Answering.{IsIdle, IsTold}
use Rattle.dv_top.specs.Runs.{AreFirstTurns, AreTurns, IsRun, refused_line, schedule_line, short_line, status_by, status_by_end}
use Rattle.dv_top.specs.Scheduling.{IsReplyOfReplay, Runs, line_of}
use Rattle.dv_top.specs.Status.{code_of}

-- ---- statuses

-- a status with which something ran
pub record IsRunStatus (s : ℕ) : Type 0 where
  pub read : s ≢ code_of exit.Usage
  pub good_source : s ≢ code_of exit.ReadFault
  pub good_sink : s ≢ code_of exit.WriteFault
  pub good_text : s ≢ code_of exit.BadText
  pub accepted : s ≢ code_of exit.Refused
  pub enough : s ≢ code_of exit.NoMemory
  pub scheduled : s ≢ code_of exit.Schedule
  pub small : s ≢ code_of exit.TooLarge

ended : (s : ℕ) → s ≤ 1 → IsRunStatus s
ended s low =
    record {
      read = omega arith;
      good_source = omega arith;
      good_sink = omega arith;
      good_text = omega arith;
      accepted = omega arith;
      enough = omega arith;
      scheduled = omega arith;
      small = omega arith;
    }

stopped : (s : ℕ) → 9 ≤ s → s ≤ 10 → IsRunStatus s
stopped s low high =
    record {
      read = omega arith;
      good_source = omega arith;
      good_sink = omega arith;
      good_text = omega arith;
      accepted = omega arith;
      enough = omega arith;
      scheduled = omega arith;
      small = omega arith;
    }

of_first : (first : Option End) → IsRunStatus (code_of (status_by_end first))
of_first None = ended 0 (omega arith)
of_first (Some end.Living) = ended 0 (omega arith)
of_first (Some (end.Flying o)) = ended 0 (omega arith)
of_first (Some end.Returned) = ended 0 (omega arith)
of_first (Some (end.Died o)) = ended 1 (omega arith)

of_ending : (e : Ending) (first : Option End) → IsRunStatus (code_of (status_by e first))
of_ending ending.Done first = of_first first
of_ending ending.NoRunnable first = stopped 9 (omega arith) (omega arith)
of_ending ending.Steps first = stopped 10 (omega arith) (omega arith)
of_ending ending.Output first = stopped 10 (omega arith) (omega arith)

pub run_status : (image : Image) (main : Method) (limits : Limits) (log : List Entry) (behind : Closing) (status : ℕ) (text : List ℕ) → IsRun image main limits log behind status text → IsRunStatus status
run_status image main limits log behind status text r = subst IsRunStatus (sym r.tells) (of_ending r.ending _)

-- it tells what was found, and that isn't that nothing ran
pub told_of_run : (s : ℕ) → IsRunStatus s → IsTold s × (s ≢ code_of exit.Usage)
told_of_run s is = (record { no_read_fault = is.good_source; no_write_fault = is.good_sink; no_want = is.enough }, is.read)

pub not_idle : (s : ℕ) → IsRunStatus s → IsIdle s → ⊥
not_idle s is (inl e) = is.read e
not_idle s is (inr (inl e)) = is.good_source e
not_idle s is (inr (inr (inl e))) = is.good_text e
not_idle s is (inr (inr (inr (inl e)))) = is.accepted e
not_idle s is (inr (inr (inr (inr (inl e))))) = is.scheduled e
not_idle s is (inr (inr (inr (inr (inr e))))) = is.small e

-- so it has no log only where there is none
pub idle_of_run : (s : ℕ) (log : List Entry) → IsRunStatus s → IsIdle s → log ≡ []
idle_of_run s log is idle = absurd (not_idle s is idle)

-- ---- turns

-- all turns are the first ones
pub first_of_all : (seed : Option ℕ) (image : Image) (main : Method) (limits : Limits) (log : List Entry) → AreTurns seed image main limits log → AreFirstTurns seed image main limits log
first_of_all (Some seed) image main limits log is = ([], is ∙ ap Ok (sym (append-nil log)))
first_of_all None image main limits log is = is

-- ---- schedules that are refused

same_entry : (image : Image) (log : List Entry) (j k : ℕ) (why : List ℕ) → k ≡ j → Some (schedule_line j why) ≡ Some (schedule_line k why)
same_entry image log j k why e = ap (λ n. Some (schedule_line n why)) (sym e)

by_replay : (e : ReplayError) (image : Image) (log : List Entry) (r : Replayed) (line : List ℕ) → Refuses e r → line_of e ≡ Some line → refused_line image log r ≡ Some line
by_replay (error.NotRunnable k) image log (NotRunnable j) line is told = same_entry image log j k _ is ∙ told
by_replay (error.NotRunnable k) image log (Stands m) line is told = absurd is
by_replay (error.NotRunnable k) image log (PastEnd j) line is told = absurd is
by_replay (error.NotRunnable k) image log (Wrong y) line is told = absurd is
by_replay (error.Long k) image log (PastEnd j) line is told = same_entry image log j k _ is ∙ told
by_replay (error.Long k) image log (Stands m) line is told = absurd is
by_replay (error.Long k) image log (NotRunnable j) line is told = absurd is
by_replay (error.Long k) image log (Wrong y) line is told = absurd is
by_replay (error.Short k) image log r line is told = absurd (no_short k r is)
  where
    no_short : (k : ℕ) (r : Replayed) → Refuses (error.Short k) r → ⊥
    no_short k (Stands m) is = is
    no_short k (NotRunnable j) is = is
    no_short k (PastEnd j) is = is
    no_short k (Wrong y) is = is
by_replay (error.Memory e) image log r line is told = cc

by_short : (image : Image) (main : Method) (limits : Limits) (log : List Entry) (k : ℕ) (line : List ℕ) → k ≡ length log → IsShort image main limits log → line_of (error.Short k) ≡ Some line → refused_line image log (replay image main limits log) ≡ Some line
by_short image main limits log k line all (m, stands, going) told =
    ap (refused_line image log) stands ∙ ap (short_line log) going ∙ ap (λ n. line_of (error.Short n)) (sym all) ∙ told

-- a schedule that a replay refuses is refused by the line that is told
pub refused_by : (e : ReplayError) (image : Image) (main : Method) (limits : Limits) (log : List Entry) (line : List ℕ) → IsRefused e image main limits log → line_of e ≡ Some line → refused_line image log (replay image main limits log) ≡ Some line
refused_by (error.NotRunnable k) image main limits log line is told = by_replay (error.NotRunnable k) image log (replay image main limits log) line is told
refused_by (error.Long k) image main limits log line is told = by_replay (error.Long k) image log (replay image main limits log) line is told
refused_by (error.Short k) image main limits log line is told = by_short image main limits log k line is.0 is.1 told
refused_by (error.Memory e) image main limits log line is told = cc

-- a run leads to an ending, so its schedule isn't refused
pub not_refused : (image : Image) (main : Method) (limits : Limits) (log : List Entry) (behind : Closing) (status : ℕ) (text line : List ℕ) → IsRun image main limits log behind status text → refused_line image log (replay image main limits log) ≡ Some line → ⊥
not_refused image main limits log behind status text line r is =
    let none : refused_line image log (replay image main limits log) ≡ None = ap (refused_line image log) r.replayed ∙ ap (short_line log) r.ends in
    cc

-- a run of these has this main method
pub main_of_run : (v run : VerifiedValue) (main own : MethodId) (m : Method) → run ≡ v → own ≡ main → method_at v.image main.0 ≡ Some m → method_at run.image own.0 ≡ Some m
main_of_run v run main own m same mains is = rw (same, mains) is

-- a run that a schedule led to its end
pub runs_by : (v run : VerifiedValue) (m : Method) (limits own : Limits) (schedule log after : List Entry) (status : ℕ) (text : List ℕ) → run ≡ v → own ≡ limits → log ≡ schedule → after ≡ log → IsRun run.image m own log closing.Nothing status text → IsReplyOfReplay v.image m limits schedule after status text
runs_by v run m limits own schedule log after status text same few given kept ran = Runs (kept ∙ given) (rw (same, few, given) at ran)
