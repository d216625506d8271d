-- Runs of main methods: their schedules, how they end, and what they print.
use Rattle.std.specs.Prelude.{◌≡◌, ℕ, ◌++◌, ◌+◌, List, [], length, All, Option, Some, None, Ok, slice_get, decimal, codes}
use Rattle.dv_defs.specs.declared.machine.End.{End}
use Rattle.dv_defs.specs.declared.machine.End.TheVariants as end
use Rattle.dv_defs.specs.declared.run.Ending.{Ending}
use Rattle.dv_defs.specs.declared.run.Ending.TheVariants as ending
use Rattle.dv_defs.specs.declared.run.Entry.{Entry}
use Rattle.dv_defs.specs.declared.run.Limits.{Limits}
use Rattle.dv_defs.specs.Images.{Image}
use Rattle.dv_defs.specs.Pools.{Method}
use Rattle.dv_log.specs.Writing.{log_text}
use Rattle.dv_machine.specs.Final.{final_text, newline}
use Rattle.dv_machine.specs.Replaying.{NotRunnable, PastEnd, Replayed, Stands, Wrong, replay}
use Rattle.dv_machine.specs.Running.{ending_of}
use Rattle.dv_machine.specs.Seeds.{log_of_seed}
use Rattle.dv_machine.specs.State.{Machine, Thread}
use Rattle.dv_workers.specs.Entries.{IsOfWorker}
use Rattle.dv_top.specs.declared.closing.Closing.{Closing}
use Rattle.dv_top.specs.declared.closing.Closing.TheVariants as closing
use Rattle.dv_top.specs.declared.status.Status.{Status}
use Rattle.dv_top.specs.declared.status.Status.TheVariants as exit
use Rattle.dv_top.specs.Status.{code_of}

-- ---- how a run ends

-- the status of a run of which no thread is left: how thread 0 ended
abbrev pub status_by_end : Option End → Status
status_by_end (Some (end.Died o)) = exit.Uncaught
status_by_end e = exit.Done

abbrev pub end_of : Option Thread → Option End
end_of None = None
end_of (Some thread) = Some thread.end

-- the status that tells of an ending
abbrev pub status_by : Ending → Option End → Status
status_by ending.Done first = status_by_end first
status_by ending.NoRunnable first = exit.Blocked
status_by ending.Steps first = exit.Spent
status_by ending.Output first = exit.Spent

abbrev pub status_of : Machine → Ending → Status
status_of m e = status_by e (end_of (slice_get m.threads 0))

-- ---- what it prints

-- a schedule as a block, which may stand behind the classes of a text
abbrev pub schedule_text : List Entry → List ℕ
schedule_text log = codes ".schedule" ++ newline ++ log_text log ++ codes ".end schedule" ++ newline

-- how large a demo was: a method of each class, and those of the worker and of the main class
abbrev pub demo_line : ℕ → ℕ → List ℕ
demo_line classes threads =
    codes "#demo classes " ++ decimal classes ++ codes " threads " ++ decimal threads ++ codes " methods " ++ decimal (classes + 3) ++ newline

-- what stands behind the final text
abbrev pub closing_text : Closing → List Entry → List ℕ
closing_text closing.Nothing log = []
closing_text closing.Schedule log = schedule_text log
closing_text (closing.Demo classes threads) log = demo_line classes threads

-- a main method, run on a schedule, is never stuck and stands at an ending, which the status names; the text is the final text of that state,
-- and what stands behind it
pub record IsRun
    (image : Image) (main : Method) (limits : Limits) (log : List Entry) (behind : Closing) (status : ℕ) (text : List ℕ) : Type 0 where
  pub machine : Machine
  pub replayed : replay image main limits log ≡ Stands machine
  pub ending : Ending
  pub ends : ending_of image machine ≡ Some ending
  pub tells : status ≡ code_of (status_of machine ending)
  pub prints : text ≡ final_text image machine ++ closing_text behind log

-- ---- schedules

-- the turns of a run: those that the words of a seed pick, or else any of workers
abbrev pub AreTurns : Option ℕ → Image → Method → Limits → List Entry → Type 0
AreTurns (Some seed) image main limits log = log_of_seed image main limits seed ≡ Ok log
AreTurns None image main limits log = All IsOfWorker log

-- the first of these
abbrev pub AreFirstTurns : Option ℕ → Image → Method → Limits → List Entry → Type 0
AreFirstTurns (Some seed) image main limits log = (rest : List Entry) × (log_of_seed image main limits seed ≡ Ok (log ++ rest))
AreFirstTurns None image main limits log = All IsOfWorker log

abbrev pub schedule_line : ℕ → List ℕ → List ℕ
schedule_line k why = codes "#schedule entry " ++ decimal k ++ codes ": " ++ why ++ newline

abbrev pub short_line : List Entry → Option Ending → Option (List ℕ)
short_line log None = Some (schedule_line (length log) (codes "stops early"))
short_line log (Some e) = None

-- the line of a schedule that is refused, by where it leads: the thread of an entry isn't runnable, an entry goes on past the end, or the
-- schedule ends while the run goes on
abbrev pub refused_line : Image → List Entry → Replayed → Option (List ℕ)
refused_line image log (NotRunnable k) = Some (schedule_line k (codes "not runnable"))
refused_line image log (PastEnd k) = Some (schedule_line k (codes "past the end"))
refused_line image log (Stands m) = short_line log (ending_of image m)
refused_line image log (Wrong why) = None
