-- What the parts of an answer tell.
use Rattle.std.specs.Prelude.{◌≡◌, ◌≢◌, ◌⊎◌, ℕ, ◌+◌, List, [], take, All, Option, Some, None, Result}
use Rattle.dv_defs.specs.declared.run.Entry.{Entry}
use Rattle.dv_defs.specs.declared.run.Limits.{Limits}
use Rattle.dv_defs.specs.Pools.{Method}
use Rattle.dv_console.specs.declared.command.Cmd.{Cmd}
use Rattle.dv_console.specs.declared.command.Cmd.TheVariants as cmd
use Rattle.dv_console.specs.declared.refusals.Refusal.{Refusal}
use Rattle.dv_io.specs.Io.{HasRisen, TookPart, after_taking, after_write}
use Rattle.dv_machine.specs.Replaying.{IsFinished, IsLegal, Stands, replay}
use Rattle.dv_machine.specs.State.{Machine}
use Rattle.dv_workers.specs.Entries.{IsOfWorker}
use Rattle.dv_top.specs.declared.program.Program.{Program}
use Rattle.dv_top.specs.declared.status.Status.TheVariants as exit
use Rattle.dv_top.specs.Programs.{program_to_replay, program_to_run}
use Rattle.dv_top.specs.Runs.{AreFirstTurns}
use Rattle.dv_top.specs.Said.{IsAccepted, IsSaid, text_limit, usage}
use Rattle.dv_top.specs.Status.{code_of}
use Rattle.dv_top.specs.Words.{IsByWorkers, ReadsSource, RunAsked, class_to_run, run_asked, text_asked}

-- a status with which nothing ran
abbrev pub IsIdle : ℕ → Type 0
IsIdle status =
    (status ≡ code_of exit.Usage)
    ⊎ ((status ≡ code_of exit.ReadFault)
    ⊎ ((status ≡ code_of exit.BadText)
    ⊎ ((status ≡ code_of exit.Refused) ⊎ ((status ≡ code_of exit.Schedule) ⊎ (status ≡ code_of exit.TooLarge)))))

-- the statuses of a call whose words aren't read
abbrev pub IsOfUnread : ℕ → Type 0
IsOfUnread status = (status ≡ code_of exit.Usage) ⊎ ((status ≡ code_of exit.WriteFault) ⊎ (status ≡ code_of exit.NoMemory))

-- a status that tells what was found of the words and the text: no fault from outside, and no want of memory
pub record IsTold (status : ℕ) : Type 0 where
  pub no_read_fault : status ≢ code_of exit.ReadFault
  pub no_write_fault : status ≢ code_of exit.WriteFault
  pub no_want : status ≢ code_of exit.NoMemory

-- a sink that held these bytes holds some more
abbrev pub HasTaken : Option (List ℕ) → Option (List ℕ) → Type 0
HasTaken before after = (text : List ℕ) × (after ≡ after_write text before)

-- what was read of these bytes is the text: all of it, or one byte past the limit
abbrev pub IsReadOf : List ℕ → List ℕ → Type 0
IsReadOf bytes text = text ≡ take (text_limit + 1) bytes

-- the log of a run: it leads the main method of an accepted image to a state, and has the first of the turns
pub record IsLogOfRun (bytes : List ℕ) (found : Result Program Refusal) (seed : Option ℕ) (limits : Limits) (log : List Entry) : Type 0 where
  pub program : Program
  pub main : Method
  pub accepted : IsAccepted bytes found program main
  pub legal : IsLegal program.image main limits log
  pub turns : AreFirstTurns seed program.image main limits log

-- the log of a replay: the given schedule, which leads the main method of an accepted image to an ending
pub record IsLogOfReplay (bytes : List ℕ) (found : Result Program Refusal) (limits : Limits) (log : List Entry) : Type 0 where
  pub program : Program
  pub main : Method
  pub accepted : IsAccepted bytes found program main
  pub given : log ≡ program.schedule
  pub finished : IsFinished program.image main limits log

-- where one of the two is asked for
pub data MayRun (asked : Option Cmd) (bytes : List ℕ) (log : List Entry) : Type 0 where
  ByTurns : (r : RunAsked) → run_asked asked ≡ Some r → IsLogOfRun bytes (program_to_run r.class bytes) r.seed r.limits log → MayRun asked bytes log
  AsGiven : (class : List ℕ) (limits : Limits) → asked ≡ Some (cmd.Replay class limits)
      → IsLogOfReplay bytes (program_to_replay class bytes) limits log → MayRun asked bytes log

-- the sink took this text besides, and so it is said
pub record IsPrinted
    (asked : Option Cmd) (bytes : List ℕ) (log : List Entry) (status : ℕ) (before after : Option (List ℕ)) : Type 0 where
  pub text : List ℕ
  pub said : IsSaid asked bytes log status text
  pub took : after ≡ after_write text before

-- the sink took a front of what is said
pub record IsPartlyPrinted
    (asked : Option Cmd) (bytes : List ℕ) (log : List Entry) (before after : Option (List ℕ)) : Type 0 where
  pub status : ℕ
  pub text : List ℕ
  pub said : IsSaid asked bytes log status text
  pub count : ℕ
  pub took : after ≡ after_write (take count text) before

-- a run by workers stopped before its end: its program is accepted, its log leads to a state, and the sink took a front of what the guest
-- printed until then
pub record IsPartOfRun
    (asked : Option Cmd) (bytes : List ℕ) (log : List Entry) (before after : Option (List ℕ)) : Type 0 where
  pub run : RunAsked
  pub is_asked : run_asked asked ≡ Some run
  pub unseeded : run.seed ≡ None
  pub program : Program
  pub main : Method
  pub accepted : IsAccepted bytes (program_to_run run.class bytes) program main
  pub machine : Machine
  pub replayed : replay program.image main run.limits log ≡ Stands machine
  pub took : TookPart before after machine.shared.output

-- What an answer owes, by its status and its log, of what is asked for, and of the source and the sink before and after it. A source tells the
-- bytes that are left and a sink those that it took, where they tell them; both count their faults. The text is what the source holds, or that
-- of a demo.
pub record IsAnswer
    {S K : Type 0} (left : S → Option (List ℕ)) (read_faults : S → ℕ) (taken : K → Option (List ℕ)) (write_faults : K → ℕ)
    (asked : Option Cmd) (source source_after : S) (sink sink_after : K) (log : List Entry) (status : ℕ) : Type 0 where
  -- nothing is asked for, for the words aren't read: nothing is taken from the source, and the usage is told
  pub unread : asked ≡ None → (source_after ≡ source) × IsOfUnread status
  -- of words that aren't read a sink that failed took a front of the usage
  pub usage_part : asked ≡ None → status ≡ code_of exit.WriteFault → TookPart (taken sink) (taken sink_after) usage
  pub usage : status ≡ code_of exit.Usage → (asked ≡ None) × (taken sink_after ≡ after_write usage (taken sink))
  -- where the source isn't to be read, nothing is taken from it, and no read failed
  pub source_left : (ReadsSource asked → ⊥) → (source_after ≡ source) × (status ≢ code_of exit.ReadFault)
  -- else it is read to its end, or to one byte past the limit
  pub source_read : ReadsSource asked → status ≢ code_of exit.ReadFault → status ≢ code_of exit.NoMemory
      → left source_after ≡ after_taking (text_limit + 1) (left source)
  -- a read failed, and nothing was written
  pub read_fault : status ≡ code_of exit.ReadFault
      → HasRisen (read_faults source) (read_faults source_after) × (taken sink_after ≡ taken sink)
  -- a write failed
  pub write_fault : status ≡ code_of exit.WriteFault → HasRisen (write_faults sink) (write_faults sink_after)
  -- memory was wanting, and nothing was written where nothing ran, or no workers ran it
  pub no_memory : status ≡ code_of exit.NoMemory → (log ≡ []) ⊎ (IsByWorkers asked → ⊥) → taken sink_after ≡ taken sink
  -- memory was wanting while workers ran: the sink took a front of what the guest printed
  pub wanting : (bytes : List ℕ) → text_asked asked (left source) ≡ Some bytes → status ≡ code_of exit.NoMemory → IsByWorkers asked → log ≢ []
      → IsPartOfRun asked bytes log (taken sink) (taken sink_after)
  -- what the sink holds beyond what it held was taken in this call
  pub took : HasTaken (taken sink) (taken sink_after)
  -- each other status, and all that the sink took, are what is said of what is asked for, the bytes and the log
  pub said : (bytes : List ℕ) → text_asked asked (left source) ≡ Some bytes → IsTold status → IsPrinted asked bytes log status (taken sink) (taken sink_after)
  -- a sink that failed took a front of what is said; one that failed while workers ran, a front of what the guest printed until then
  pub part : (bytes : List ℕ) → text_asked asked (left source) ≡ Some bytes → status ≡ code_of exit.WriteFault
      → IsPartlyPrinted asked bytes log (taken sink) (taken sink_after) ⊎ IsPartOfRun asked bytes log (taken sink) (taken sink_after)
  -- the log has entries of eight workers, of 1 to 256 steps, and none where nothing ran
  pub entries : All IsOfWorker log
  pub idle : IsIdle status → log ≡ []
  pub not_run : class_to_run asked ≡ None → log ≡ []
  -- a log with entries is a legal schedule of an accepted image, also where a write failed or memory is wanting: of a run it has the first of
  -- its turns, of a replay it is the given one
  pub legal : (bytes : List ℕ) → text_asked asked (left source) ≡ Some bytes → log ≢ [] → MayRun asked bytes log
  -- a replay for which memory is wanting has no log
  pub not_replayed : (class : List ℕ) (limits : Limits) → asked ≡ Some (cmd.Replay class limits) → status ≡ code_of exit.NoMemory
      → log ≡ []
