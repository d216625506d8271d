-- What a run by workers comes to, of whose output they write.
use Rattle.std.specs.Prelude.{◌≡◌, ◌⊎◌, ℕ, ◌++◌, List, [], All, Option, Some, None}
use Rattle.dv_defs.specs.declared.names.MethodId.{MethodId}
use Rattle.dv_defs.specs.declared.run.Entry.{Entry}
use Rattle.dv_defs.specs.declared.run.Limits.{Limits}
use Rattle.dv_defs.specs.Images.{Image}
use Rattle.dv_defs.specs.Pools.{Method, method_at}
use Rattle.dv_io.specs.Io.{HasRisen, TookPart, after_write}
use Rattle.dv_machine.specs.Replaying.{Stands, replay}
use Rattle.dv_machine.specs.State.{Machine}
use Rattle.dv_sound.specs.Runs.{Run}
use Rattle.dv_final.specs.Final.{final_lines_of}
use Rattle.dv_workers.specs.Entries.{IsOfWorker}
use Rattle.dv_top.specs.declared.by_workers.Working.{Working}
use Rattle.dv_top.specs.declared.closing.Closing.{Closing}
use Rattle.dv_top.specs.declared.preparing.Prepared.{Prepared}
use Rattle.dv_top.specs.declared.preparing.Prepared.TheVariants as prepared
use Rattle.dv_top.specs.declared.status.Status.TheVariants as exit
use Rattle.dv_top.specs.Preparing.{IsPrepared, IsReady}
use Rattle.dv_top.specs.Programs.{program_to_run}
use Rattle.dv_top.specs.Runs.{IsRun, closing_text}
use Rattle.dv_top.specs.Status.{code_of}
use Rattle.dv_top.specs.Words.{RunAsked}
use Rattle.dv_top.specs.Written.{IsReported}

-- what stands behind the bytes that the guest printed: the lines of the machine, and what stands behind the final text
abbrev pub tail_of : Run → Closing → List ℕ
tail_of r behind = final_lines_of r.verified.image r.machine ++ closing_text behind r.log

-- a run that has ended, whose output is written: what stands behind it is written too, or a front of that, or memory was wanting for it
pub data IsFollowed
    (image : Image) (main : Method) (limits : Limits) (log : List Entry) (behind : Closing) (output : List ℕ) (before after : Option (List ℕ))
    (status : ℕ) : Type 0 where
  Followed : (tail : List ℕ) → IsRun image main limits log behind status (output ++ tail) → after ≡ after_write tail before
      → IsFollowed image main limits log behind output before after status
  PartlyFollowed : (own : ℕ) (tail : List ℕ) → IsRun image main limits log behind own (output ++ tail) → TookPart before after tail
      → status ≡ code_of exit.WriteFault → IsFollowed image main limits log behind output before after status
  NotFollowed : after ≡ before → status ≡ code_of exit.NoMemory → IsFollowed image main limits log behind output before after status

-- a run: it has ended, and all that there is to print was written, or a front of it; or it stopped, and a front of its output was written
pub data IsWorked
    (image : Image) (main : Method) (limits : Limits) (log : List Entry) (behind : Closing) (before after : Option (List ℕ)) (status : ℕ) : Type 0
  where
    Ended : (text : List ℕ) → IsRun image main limits log behind status text → after ≡ after_write text before
        → IsWorked image main limits log behind before after status
    PartlyEnded : (own : ℕ) (text : List ℕ) → IsRun image main limits log behind own text → TookPart before after text
        → status ≡ code_of exit.WriteFault → IsWorked image main limits log behind before after status
    Stopped : (machine : Machine) → replay image main limits log ≡ Stands machine → TookPart before after machine.shared.output
        → (status ≡ code_of exit.WriteFault) ⊎ (status ≡ code_of exit.NoMemory) → IsWorked image main limits log behind before after status

-- ---- runs by workers

-- of a class, by so many workers, within limits and with this behind the final text
abbrev pub by_workers : List ℕ → Working → RunAsked
by_workers class how = record { class = class; workers = how.workers; seed = None; limits = how.limits; behind = how.behind }

-- the main method of an accepted image is run
pub record IsRunOfMain
    {K : Type 0} (taken : K → Option (List ℕ)) (faults : K → ℕ) (how : Working) (image : Image) (number : MethodId) (sink sink_after : K)
    (log : List Entry) (status : ℕ) : Type 0 where
  pub worked : (m : Method) → method_at image number.0 ≡ Some m
      → IsWorked image m how.limits log how.behind (taken sink) (taken sink_after) status
  pub entries : All IsOfWorker log
  pub write_fault : status ≡ code_of exit.WriteFault → HasRisen (faults sink) (faults sink_after)

-- what was prepared is run, or replied
abbrev pub IsRunOf : {K : Type 0} → (K → Option (List ℕ)) → (K → ℕ) → Working → Prepared → K → K → List Entry → ℕ → Type 0
IsRunOf taken faults how (prepared.Accepted verified main) sink sink_after log status =
    IsRunOfMain taken faults how verified.image main sink sink_after log status
IsRunOf taken faults how (prepared.Told reply) sink sink_after log status =
    IsReported taken faults reply.status reply.text.items sink sink_after status × (log ≡ [])

-- a text of which a class is to be run: memory was wanting before anything ran, or what was prepared of it is run, or replied
pub data IsRunOfText
    {K : Type 0} (taken : K → Option (List ℕ)) (faults : K → ℕ) (class text : List ℕ) (how : Working) (sink sink_after : K) (log : List Entry)
    (status : ℕ) : Type 0 where
  NotPrepared : status ≡ code_of exit.NoMemory → log ≡ [] → taken sink_after ≡ taken sink
      → IsRunOfText taken faults class text how sink sink_after log status
  RunOrReplied : (p : Prepared) → IsReady p → IsPrepared text (program_to_run class text) p
      → IsRunOf taken faults how p sink sink_after log status → IsRunOfText taken faults class text how sink sink_after log status
