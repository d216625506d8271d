-- The program of a text: its image, the main method of the class that is to be run, and the schedule on which it is run again.
use Rattle.std.specs.Prelude.{ℕ, List, [], Result, Ok, Err}
use Rattle.dv_defs.specs.declared.names.MethodId.{MethodId}
use Rattle.dv_defs.specs.declared.run.Entry.{Entry}
use Rattle.dv_defs.specs.Images.{Image}
use Rattle.dv_console.specs.declared.refusals.Refusal.{Refusal}
use Rattle.dv_load.specs.declared.program.Scheduled.{Scheduled}
use Rattle.dv_load.specs.Images.{image_in, main_in, scheduled_in}
use Rattle.dv_top.specs.declared.program.Program.{Program}

abbrev pub with_main : Image → List Entry → Result MethodId Refusal → Result Program Refusal
with_main image schedule (Ok main) = Ok (record { image = image; main = main; schedule = schedule })
with_main image schedule (Err why) = Err why

abbrev pub of_image : List ℕ → Result Image Refusal → Result Program Refusal
of_image class (Ok image) = with_main image [] (main_in image class)
of_image class (Err why) = Err why

-- of a text that is to be run; or why it has none: reading, assembling or linking refuses it, or else the class isn't there or has no main method
abbrev pub program_to_run : List ℕ → List ℕ → Result Program Refusal
program_to_run class bytes = of_image class (image_in bytes)

abbrev pub of_scheduled : List ℕ → Result Scheduled Refusal → Result Program Refusal
of_scheduled class (Ok s) = with_main s.image s.log (main_in s.image class)
of_scheduled class (Err why) = Err why

-- of a text that is to be run again, behind whose classes its schedule may stand
abbrev pub program_to_replay : List ℕ → List ℕ → Result Program Refusal
program_to_replay class bytes = of_scheduled class (scheduled_in bytes)
