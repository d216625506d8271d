-- What is said of what is asked for, the bytes of the text and the log: the status of the call, and what is printed.
use Rattle.std.specs.Prelude.{◌≡◌, ℕ, ◌<◌, ◌≤◌, false, List, [], ◌∷◌, ◌++◌, length, Option, Some, None, codes, Result, Ok, Err}
use Rattle.std.specs.List.{flat_map}
use Rattle.dv_defs.specs.declared.faults.Fault.{Fault}
use Rattle.dv_defs.specs.declared.run.Entry.{Entry}
use Rattle.dv_defs.specs.declared.run.Limits.{Limits}
use Rattle.dv_typing.specs.Accepting.{Accepts, AreImageFaults}
use Rattle.dv_defs.specs.Images.{Image}
use Rattle.dv_defs.specs.Pools.{Method, method_at}
use Rattle.dv_lex.specs.declared.line.Stop.{Stop}
use Rattle.dv_lex.specs.Lines.{reading_of}
use Rattle.dv_print.specs.Listing.{class_text}
use Rattle.dv_classread.specs.declared.text.Read.{Read}
use Rattle.dv_classread.specs.Programs.{program_of}
use Rattle.dv_console.specs.declared.command.Cmd.{Cmd}
use Rattle.dv_console.specs.declared.command.Cmd.TheVariants as cmd
use Rattle.dv_console.specs.declared.refusals.Refusal.{Refusal}
use Rattle.dv_console.specs.declared.refusals.Refusal.TheVariants as refusal
use Rattle.dv_console.specs.Faults.{accepted_text, fault_text}
use Rattle.dv_console.specs.Refusals.{refusal_text}
use Rattle.dv_load.specs.Images.{image_in}
use Rattle.dv_machine.specs.Replaying.{replay}
use Rattle.dv_top.specs.declared.closing.Closing.{Closing}
use Rattle.dv_top.specs.declared.closing.Closing.TheVariants as closing
use Rattle.dv_top.specs.declared.program.Program.{Program}
use Rattle.dv_top.specs.declared.status.Status.{Status}
use Rattle.dv_top.specs.declared.status.Status.TheVariants as exit
use Rattle.dv_top.specs.Programs.{program_to_replay, program_to_run}
use Rattle.dv_top.specs.Runs.{AreTurns, IsRun, refused_line}
use Rattle.dv_top.specs.Status.{code_of}
use Rattle.dv_top.specs.Words.{AsksForListing, AsksForVerifying, RunAsked, run_asked}

-- ---- printed texts

-- lines, each ended by LF
abbrev pub text_of : List (List ℕ) → List ℕ
text_of [] = []
text_of (line ∷ lines) = line ++ (10 ∷ text_of lines)

abbrev pub usage : List ℕ
usage =
    text_of (codes "#usage dvm run NAME [workers=N | seed=N] [budget=N] [heap=N] [log=yes]"
    ∷ codes "#usage dvm replay NAME [budget=N] [heap=N] | dvm verify | dvm list"
    ∷ codes "#usage dvm demo number=N classes=C threads=T [workers=N]"
    ∷ [])

abbrev pub too_large : List ℕ
too_large = text_of (codes "#refused text too large" ∷ [])

-- the lines of faults
abbrev pub fault_lines : Image → List Fault → List ℕ
fault_lines image faults = flat_map (fault_text image) faults

-- the most bytes of a text
abbrev pub text_limit : ℕ
text_limit = 8388608

abbrev pub IsReply : Status → List ℕ → ℕ → List ℕ → Type 0
IsReply own own-text status text = (status ≡ code_of own) × (text ≡ own-text)

-- ---- programs that are to be run

-- nothing runs: by cases, of which each excludes the others
pub data IsSaidOfNoRun (bytes : List ℕ) (found : Result Program Refusal) (status : ℕ) (text : List ℕ) : Type 0 where
  TooLarge : text_limit < length bytes → IsReply exit.TooLarge too_large status text → IsSaidOfNoRun bytes found status text
  -- the text has no program
  NoProgram : length bytes ≤ text_limit → (why : Refusal) → found ≡ Err why → IsReply exit.BadText (refusal_text why) status text
      → IsSaidOfNoRun bytes found status text
  -- the image isn't accepted: it has faults
  Refused : length bytes ≤ text_limit → (p : Program) → found ≡ Ok p → (Accepts p.image → ⊥) → (faults : List Fault)
      → AreImageFaults p.image faults → IsReply exit.Refused (fault_lines p.image faults) status text → IsSaidOfNoRun bytes found status text

-- the text has this program, which the verifier accepts, with this main method
pub record IsAccepted (bytes : List ℕ) (found : Result Program Refusal) (p : Program) (main : Method) : Type 0 where
  pub small : length bytes ≤ text_limit
  pub program : found ≡ Ok p
  pub accepted : Accepts p.image
  pub has_main : method_at p.image p.main.0 ≡ Some main

-- of one that is to be run: by turns that the words of a seed pick, or else by those of workers; within limits; with this behind its final text
pub data IsSaidOfRun
    (bytes : List ℕ) (found : Result Program Refusal) (seed : Option ℕ) (limits : Limits) (behind : Closing) (log : List Entry) (status : ℕ)
    (text : List ℕ) : Type 0 where
  NotRun : IsSaidOfNoRun bytes found status text → IsSaidOfRun bytes found seed limits behind log status text
  Ran : (p : Program) (main : Method) → IsAccepted bytes found p main → AreTurns seed p.image main limits log
      → IsRun p.image main limits log behind status text → IsSaidOfRun bytes found seed limits behind log status text

-- ... and of one that is to be run on the schedule at the end of its text
pub data IsSaidOfReplay
    (bytes : List ℕ) (found : Result Program Refusal) (limits : Limits) (log : List Entry) (status : ℕ) (text : List ℕ) : Type 0 where
  NotReplayed : IsSaidOfNoRun bytes found status text → IsSaidOfReplay bytes found limits log status text
  -- the schedule is refused, and nothing of the run is printed
  ScheduleRefused : (p : Program) (main : Method) → IsAccepted bytes found p main → (line : List ℕ)
      → refused_line p.image p.schedule (replay p.image main limits p.schedule) ≡ Some line → IsReply exit.Schedule line status text
      → IsSaidOfReplay bytes found limits log status text
  -- it is run; the log is that schedule
  Replayed : (p : Program) (main : Method) → IsAccepted bytes found p main → log ≡ p.schedule
      → IsRun p.image main limits p.schedule closing.Nothing status text → IsSaidOfReplay bytes found limits log status text

-- ---- programs that are to be listed or verified

pub data IsSaidOfListing (bytes : List ℕ) (status : ℕ) (text : List ℕ) : Type 0 where
  TooLargeToList : text_limit < length bytes → IsReply exit.TooLarge too_large status text → IsSaidOfListing bytes status text
  -- a line is refused, by reading or by assembling
  BadText : length bytes ≤ text_limit → (bad : Stop) → program_of false (reading_of bytes) ≡ Err bad
      → IsReply exit.BadText (refusal_text (refusal.Line bad.line bad.kind)) status text → IsSaidOfListing bytes status text
  -- the classes are listed, one after another
  Listed : length bytes ≤ text_limit → (read : Read) → program_of false (reading_of bytes) ≡ Ok read
      → IsReply exit.Done (flat_map class_text read.classes) status text → IsSaidOfListing bytes status text

pub data IsSaidOfVerifying (bytes : List ℕ) (status : ℕ) (text : List ℕ) : Type 0 where
  TooLargeToVerify : text_limit < length bytes → IsReply exit.TooLarge too_large status text → IsSaidOfVerifying bytes status text
  -- reading, assembling or linking refuses the text
  NoImage : length bytes ≤ text_limit → (why : Refusal) → image_in bytes ≡ Err why → IsReply exit.BadText (refusal_text why) status text
      → IsSaidOfVerifying bytes status text
  -- the image isn't accepted: it has faults
  Faulty : length bytes ≤ text_limit → (image : Image) → image_in bytes ≡ Ok image → (Accepts image → ⊥)
      → (faults : List Fault) → AreImageFaults image faults → IsReply exit.Refused (fault_lines image faults) status text
      → IsSaidOfVerifying bytes status text
  -- the image is accepted
  Accepted : length bytes ≤ text_limit → (image : Image) → image_in bytes ≡ Ok image → Accepts image
      → IsReply exit.Done (accepted_text image) status text → IsSaidOfVerifying bytes status text

-- ---- all of it

-- of what is asked for, the bytes of the text, and the log
pub data IsSaid (asked : Option Cmd) (bytes : List ℕ) (log : List Entry) (status : ℕ) (text : List ℕ) : Type 0 where
  -- the words aren't read
  Unread : asked ≡ None → IsReply exit.Usage usage status text → IsSaid asked bytes log status text
  -- a class of the text, which for a demo is the demo's
  ToBeRun : (r : RunAsked) → run_asked asked ≡ Some r
      → IsSaidOfRun bytes (program_to_run r.class bytes) r.seed r.limits r.behind log status text → IsSaid asked bytes log status text
  ToBeReplayed : (class : List ℕ) (limits : Limits) → asked ≡ Some (cmd.Replay class limits)
      → IsSaidOfReplay bytes (program_to_replay class bytes) limits log status text → IsSaid asked bytes log status text
  ToBeListed : AsksForListing asked → IsSaidOfListing bytes status text → IsSaid asked bytes log status text
  ToBeVerified : AsksForVerifying asked → IsSaidOfVerifying bytes status text → IsSaid asked bytes log status text
