-- What a reply comes to that is written to a sink.
use Rattle.std.specs.Prelude.{◌≡◌, ℕ, List, Option}
use Rattle.dv_io.specs.Io.{HasRisen, TookPart, after_write}
use Rattle.dv_top.specs.declared.status.Status.{Status}
use Rattle.dv_top.specs.declared.status.Status.TheVariants as exit
use Rattle.dv_top.specs.Status.{code_of}

-- the sink took all of it, or failed and took a front of it
pub data IsWritten
    {K : Type 0} (taken : K → Option (List ℕ)) (faults : K → ℕ) (own : Status) (text : List ℕ) (sink sink_after : K) (status : Status) : Type 0
  where
    Whole : status ≡ own → taken sink_after ≡ after_write text (taken sink) → IsWritten taken faults own text sink sink_after status
    Front : status ≡ exit.WriteFault → HasRisen (faults sink) (faults sink_after) → TookPart (taken sink) (taken sink_after) text
        → IsWritten taken faults own text sink sink_after status

-- the same of the number of a status
pub record IsReported
    {K : Type 0} (taken : K → Option (List ℕ)) (faults : K → ℕ) (own : Status) (text : List ℕ) (sink sink_after : K) (code : ℕ) : Type 0 where
  pub status : Status
  pub told : code ≡ code_of status
  pub written : IsWritten taken faults own text sink sink_after status
