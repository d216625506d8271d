-- What the words of the command line ask for.
use Rattle.std.specs.Prelude.{◌≡◌, ℕ, ◌≤◌, Bool, true, false, List, Option, Some, None, codes}
use Rattle.dv_defs.specs.declared.run.Limits.{Limits}
use Rattle.dv_console.specs.declared.command.Cmd.{Cmd}
use Rattle.dv_console.specs.declared.command.Cmd.TheVariants as cmd
use Rattle.dv_console.specs.Words.{limits_of}
use Rattle.dv_gen.specs.Demo.{program_text}
use Rattle.dv_sound.specs.Moves.{AreUsable}
use Rattle.dv_top.specs.declared.closing.Closing.{Closing}
use Rattle.dv_top.specs.declared.closing.Closing.TheVariants as closing

-- ---- of what is asked for, which is a command or none

-- the program is to be listed
abbrev pub AsksForListing : Option Cmd → Type 0
AsksForListing asked = asked ≡ Some cmd.List

-- the program is to be verified
abbrev pub AsksForVerifying : Option Cmd → Type 0
AsksForVerifying asked = asked ≡ Some cmd.Verify

-- the source is to be read
abbrev pub ReadsSource : Option Cmd → Type 0
ReadsSource None = ⊥
ReadsSource (Some (cmd.Demo number classes threads workers)) = ⊥
ReadsSource (Some command) = Unit {0}

-- the text: that of the demo, or else what the source holds, where it tells that
abbrev pub text_asked : Option Cmd → Option (List ℕ) → Option (List ℕ)
text_asked (Some (cmd.Demo number classes threads workers)) held = Some (program_text number classes threads)
text_asked asked held = held

-- ---- runs that are asked for

-- a class is to be run: by the turns of a seed or else by those of so many workers, within limits, with this behind its final text
pub record RunAsked : Type 0 where
  pub class : List ℕ
  pub workers : ℕ
  pub seed : Option ℕ
  pub limits : Limits
  pub behind : Closing

-- the schedule stands behind the final text where it is to be shown
abbrev pub closing_of : Bool → Closing
closing_of true = closing.Schedule
closing_of false = closing.Nothing

-- the class of the demo that is run
abbrev pub demo_class : List ℕ
demo_class = codes "LMain;"

-- a demo is run as any text is, by workers and within the limits that stand where no words set any
abbrev pub run_asked : Option Cmd → Option RunAsked
run_asked (Some (cmd.Run class workers seed limits shown)) =
    Some (record { class = class; workers = workers; seed = seed; limits = limits; behind = closing_of shown })
run_asked (Some (cmd.Demo number classes threads workers)) =
    Some (record { class = demo_class; workers = workers; seed = None; limits = limits_of None None; behind = closing.Demo classes threads })
run_asked other = None

-- the class that is run
abbrev pub class_to_run : Option Cmd → Option (List ℕ)
class_to_run (Some (cmd.Run class workers seed limits shown)) = Some class
class_to_run (Some (cmd.Replay class limits)) = Some class
class_to_run (Some (cmd.Demo number classes threads workers)) = Some demo_class
class_to_run other = None

-- a class is to be run by workers: no seed picks the turns
abbrev pub IsByWorkers : Option Cmd → Type 0
IsByWorkers (Some (cmd.Run class workers None limits shown)) = Unit {0}
IsByWorkers (Some (cmd.Demo number classes threads workers)) = Unit {0}
IsByWorkers other = ⊥

-- ---- of a command

-- the caller does it alone, and waits for nobody
abbrev pub IsAlone : Cmd → Type 0
IsAlone (cmd.Run class workers (Some seed) limits shown) = Unit {0}
IsAlone (cmd.Run class workers None limits shown) = ⊥
IsAlone (cmd.Replay class limits) = Unit {0}
IsAlone cmd.Verify = Unit {0}
IsAlone cmd.List = Unit {0}
IsAlone (cmd.Demo number classes threads workers) = ⊥

-- a run may be opened within its limits
abbrev pub HasUsableLimits : Cmd → Type 0
HasUsableLimits (cmd.Run class workers seed limits shown) = AreUsable limits
HasUsableLimits (cmd.Replay class limits) = AreUsable limits
HasUsableLimits other = Unit {0}

-- it has 1 to 8 workers, if any
abbrev pub HasFewWorkers : Cmd → Type 0
HasFewWorkers (cmd.Run class workers seed limits shown) = (1 ≤ workers) × (workers ≤ 8)
HasFewWorkers (cmd.Demo number classes threads workers) = (1 ≤ workers) × (workers ≤ 8)
HasFewWorkers other = Unit {0}

-- a demo has up to 1,000 classes and 60 threads
abbrev pub HasSmallDemo : Cmd → Type 0
HasSmallDemo (cmd.Demo number classes threads workers) = (classes ≤ 1000) × (threads ≤ 60)
HasSmallDemo other = Unit {0}

-- it can be done
pub record IsUsable (command : Cmd) : Type 0 where
  pub limits : HasUsableLimits command
  pub workers : HasFewWorkers command
  pub demo : HasSmallDemo command
