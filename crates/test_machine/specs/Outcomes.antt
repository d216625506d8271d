-- What the examples ask of a run.
use Rattle.std.specs.Prelude.{ℕ, zero, suc, ◌++◌, List, [], ◌∷◌, length, Option, Some, None, Ok, Err, codes, decimal}
use Rattle.dv_defs.specs.Images.{Image}
use Rattle.dv_defs.specs.declared.run.Limits.{Limits}
use Rattle.dv_defs.specs.declared.run.Ending.{Ending}
use Rattle.dv_defs.specs.declared.run.Entry.{Entry}
use Rattle.dv_machine.specs.Why.{Why}
use Rattle.dv_machine.specs.Why as why
use Rattle.dv_defs.specs.Pools.{Method, method_at}
use Rattle.dv_machine.specs.State.{Machine, Reads, on_next}
use Rattle.dv_machine.specs.Running.{ending_of}
use Rattle.dv_machine.specs.Opening.{usual, opening}
use Rattle.dv_machine.specs.Replaying.{Replayed, Stands, NotRunnable, PastEnd, Wrong, replay, turn, runnable_from, picked}
use Rattle.dv_machine.specs.Final.{final_text}

-- each line with LF at its end
abbrev pub lines : List (List ℕ) → List ℕ
lines [] = []
lines (l ∷ ls) = l ++ 10 ∷ lines ls

abbrev pub why_text : Why → List ℕ
why_text why.Undefined = codes "stuck: undefined register"
why_text why.Pair = codes "stuck: broken pair"
why_text why.Uninitialised = codes "stuck: uninitialised use"
why_text why.Reference = codes "stuck: wrong reference"
why_text why.Result = codes "stuck: no result"
why_text why.Exception = codes "stuck: no pending exception"
why_text why.Instruction = codes "stuck: no instruction here"

-- the final text where an ending stands
abbrev pub ended : Image → Machine → List ℕ → Option Ending → List ℕ
ended image m early None = early
ended image m early (Some e) = final_text image m

-- the final text, or why the machine is stuck
abbrev pub shown : Image → List ℕ → Reads Machine → List ℕ
shown image early (Ok m) = ended image m early (ending_of image m)
shown image early (Err y) = why_text y

-- one worker, which always takes the lowest runnable thread and gives it a turn of at most 256 steps; so many turns at most
abbrev pub worked : Image → ℕ → Machine → Reads Machine
worked image zero m = Ok m
worked image (suc n) m =
    elim (ending_of image m) [
      | Some e ↦ Ok m
      | None ↦
          on_next (turn image (picked (runnable_from image m m.threads 0) 0) 256 m) (λ x. worked image n x.machine)
    ]

abbrev pub outcome_of : Image → Limits → Option Method → List ℕ
outcome_of image l None = codes "no main"
outcome_of image l (Some m) = shown image (codes "too many turns") (worked image 20000 (opening image m l))

-- what a run of the main method of this number prints
abbrev pub outcome : Image → ℕ → List ℕ
outcome image main = outcome_of image usual (method_at image main)

-- within these limits
abbrev pub outcome_within : Limits → Image → ℕ → List ℕ
outcome_within l image main = outcome_of image l (method_at image main)

-- the final text, what an entry is refused for, or why the machine is stuck
abbrev pub replayed_text : Image → List ℕ → Replayed → List ℕ
replayed_text image early (Stands m) = ended image m early (ending_of image m)
replayed_text image early (NotRunnable k) = codes "#schedule entry " ++ decimal k ++ codes ": not runnable"
replayed_text image early (PastEnd k) = codes "#schedule entry " ++ decimal k ++ codes ": past the end"
replayed_text image early (Wrong y) = why_text y

-- a schedule that ends before the run does, told by the number of its entries
abbrev pub short_text : List Entry → List ℕ
short_text log = codes "#schedule entry " ++ decimal (length log) ++ codes ": stops early"

abbrev pub replay_of : Image → List Entry → Option Method → List ℕ
replay_of image log None = codes "no main"
replay_of image log (Some m) = replayed_text image (short_text log) (replay image m usual log)

-- what a replay prints
abbrev pub replay_text : Image → ℕ → List Entry → List ℕ
replay_text image main log = replay_of image log (method_at image main)

-- steps of a thread, done by worker 0
abbrev pub steps : ℕ → ℕ → Entry
steps thread n = record { worker = 0; thread = thread; steps = n }
