-- The laws of what is said.
use Rattle.std.specs.Prelude.{ℕ, ◌≡◌, ◌≤◌, ◌↔◌, List, length, Option, Some, Result, Ok, Err}
use Rattle.dv_defs.specs.declared.run.Entry.{Entry}
use Rattle.dv_defs.specs.declared.run.Limits.{Limits}
use Rattle.dv_typing.specs.Accepting.{Accepts}
use Rattle.dv_defs.specs.Images.{Image}
use Rattle.dv_defs.specs.Pools.{Method}
use Rattle.dv_console.specs.declared.command.Cmd.{Cmd}
use Rattle.dv_console.specs.declared.command.Cmd.TheVariants as cmd
use Rattle.dv_console.specs.declared.refusals.Refusal.{Refusal}
use Rattle.dv_gen.specs.Demo.{program_text}
use Rattle.dv_load.specs.Images.{image_in}
use Rattle.dv_machine.specs.Replaying.{replay}
use Rattle.dv_top.specs.declared.program.Program.{Program}
use Rattle.dv_top.specs.declared.status.Status.TheVariants as exit
use Rattle.dv_top.specs.Programs.{program_to_replay, program_to_run}
use Rattle.dv_top.specs.Runs.{refused_line}
use Rattle.dv_top.specs.Said.{IsAccepted, IsSaid, text_limit}
use Rattle.dv_top.specs.Status.{code_of}
use Rattle.dv_top.specs.Words.{AsksForVerifying, RunAsked, run_asked}

-- one thing is said of what is asked for, the bytes and the log
abbrev pub IsSaidOnce : Type 0
IsSaidOnce =
    (asked : Option Cmd) (bytes : List ℕ) (log : List Entry) (s t : ℕ) (a b : List ℕ) → IsSaid asked bytes log s a
    → IsSaid asked bytes log t b → (s ≡ t) × (a ≡ b)

-- ---- where a text is refused: each law is of what is said of a text that isn't too large

-- reading, assembling or linking refuses a text exactly where it has no image, the verifier exactly where the image isn't accepted,
-- and a text is accepted exactly where its image is
pub record IsVerdict (bytes : List ℕ) (status : ℕ) : Type 0 where
  pub no_image : (status ≡ code_of exit.BadText) ↔ ((why : Refusal) × (image_in bytes ≡ Err why))
  pub refused : (status ≡ code_of exit.Refused) ↔ ((image : Image) × (image_in bytes ≡ Ok image) × (Accepts image → ⊥))
  pub accepted : (status ≡ code_of exit.Done) ↔ ((image : Image) × (image_in bytes ≡ Ok image) × Accepts image)

-- of a program that is to be verified
abbrev pub VerdictsAreExact : Type 0
VerdictsAreExact =
    (asked : Option Cmd) (bytes : List ℕ) (log : List Entry) (status : ℕ) (text : List ℕ) → AsksForVerifying asked
    → length bytes ≤ text_limit → IsSaid asked bytes log status text → IsVerdict bytes status

-- a text is refused before verifying exactly where it has no program, and by the verifier exactly where the program's image isn't accepted
pub record IsJudged (found : Result Program Refusal) (status : ℕ) : Type 0 where
  pub no_program : (status ≡ code_of exit.BadText) ↔ ((why : Refusal) × (found ≡ Err why))
  pub refused : (status ≡ code_of exit.Refused) ↔ ((p : Program) × (found ≡ Ok p) × (Accepts p.image → ⊥))

-- of a class that is to be run
abbrev pub RunsAreJudged : Type 0
RunsAreJudged =
    (asked : Option Cmd) (bytes : List ℕ) (log : List Entry) (status : ℕ) (text : List ℕ) (r : RunAsked) → run_asked asked ≡ Some r
    → length bytes ≤ text_limit → IsSaid asked bytes log status text → IsJudged (program_to_run r.class bytes) status

-- the text of each demo that the words can ask for isn't too large
abbrev pub DemosAreSmall : Type 0
DemosAreSmall = (number classes threads : ℕ) → classes ≤ 1000 → threads ≤ 60 → length (program_text number classes threads) ≤ text_limit

-- the verifier accepts the program, and its schedule is refused
pub record HasRefusedSchedule (bytes : List ℕ) (found : Result Program Refusal) (limits : Limits) : Type 0 where
  pub program : Program
  pub main : Method
  pub accepted : IsAccepted bytes found program main
  pub line : List ℕ
  pub refused : refused_line program.image program.schedule (replay program.image main limits program.schedule) ≡ Some line

-- of a class that is to be run on a schedule, which is refused in no other case
abbrev pub ReplaysAreJudged : Type 0
ReplaysAreJudged =
    (asked : Option Cmd) (bytes : List ℕ) (log : List Entry) (status : ℕ) (text : List ℕ) (class : List ℕ) (limits : Limits)
    → asked ≡ Some (cmd.Replay class limits) → length bytes ≤ text_limit → IsSaid asked bytes log status text
    → IsJudged (program_to_replay class bytes) status
    × ((status ≡ code_of exit.Schedule) ↔ HasRefusedSchedule bytes (program_to_replay class bytes) limits)
