-- The image of a text with its schedule, or why the text is refused; and the main method of a class.
use Rattle.std.specs.Prelude.{◌≡◌, ℕ, true, false, List, [], ◌++◌, Result, Ok, Err}
use Rattle.dv_defs.specs.declared.class.ClassDef.{ClassDef}
use Rattle.dv_defs.specs.declared.names.MethodId.{MethodId}
use Rattle.dv_defs.specs.declared.run.Entry.{Entry}
use Rattle.dv_defs.specs.Images.{Image}
use Rattle.dv_defs.specs.LinkFaults.{Found}
use Rattle.dv_defs.specs.Linked.{linked, main_found}
use Rattle.dv_lex.specs.declared.line.Stop.{Stop}
use Rattle.dv_lex.specs.Lines.{reading_of}
use Rattle.dv_classread.specs.declared.text.Read.{Read}
use Rattle.dv_classread.specs.Programs.{program_of}
use Rattle.dv_boot.specs.declared.text.TheConstants.{BOOT_TEXT}
use Rattle.dv_console.specs.declared.refusals.Refusal.{Refusal}
use Rattle.dv_console.specs.declared.refusals.Refusal.TheVariants as refusal
use Rattle.dv_resolve.specs.Answers.{numbered_main}
use Rattle.dv_load.specs.declared.errors.ProgramError.{ProgramError}
use Rattle.dv_load.specs.declared.errors.ProgramError.TheVariants as error
use Rattle.dv_load.specs.declared.program.Scheduled.{Scheduled}

-- the classes that a text is read as; none where a line is refused
abbrev pub classes_read : Result Read Stop → List ClassDef
classes_read (Ok read) = read.classes
classes_read (Err bad) = []

-- the classes that each program finds beside its own, as their text is read
unfoldable pub boot_classes : List ClassDef
boot_classes = classes_read (program_of false (reading_of BOOT_TEXT.now))

-- the table of boot classes has so many rows
abbrev pub boot_count : ℕ
boot_count = 33

abbrev pub by_linking : {X : Type 0} → Result X Found → Result X Refusal
by_linking (Ok x) = Ok x
by_linking (Err fault) = Err (refusal.Link fault.class fault.kind)

-- what classes link to, behind the boot classes
abbrev pub image_of : List ClassDef → Result Image Refusal
image_of classes = by_linking (linked (boot_classes ++ classes) boot_count)

abbrev pub by_reading : Result Read Stop → Result Image Refusal
by_reading (Ok read) = image_of read.classes
by_reading (Err bad) = Err (refusal.Line bad.line bad.kind)

-- the image of the classes of a text; or its first bad line, or else the class that isn't linked
unfoldable pub image_in : List ℕ → Result Image Refusal
image_in bytes = by_reading (program_of false (reading_of bytes))

-- ---- with a schedule

abbrev pub with_log : List Entry → Result Image Refusal → Result Scheduled Refusal
with_log log (Ok image) = Ok (record { image = image; log = log })
with_log log (Err why) = Err why

abbrev pub by_scheduled : Result Read Stop → Result Scheduled Refusal
by_scheduled (Ok read) = with_log read.log (image_of read.classes)
by_scheduled (Err bad) = Err (refusal.Line bad.line bad.kind)

-- the same of a text behind whose classes a schedule may stand, with that schedule
unfoldable pub scheduled_in : List ℕ → Result Scheduled Refusal
scheduled_in bytes = by_scheduled (program_of true (reading_of bytes))

-- ---- main methods

-- the number of the main method that the class of a name declares itself; or the class, which isn't there or has none
abbrev pub main_in : Image → List ℕ → Result MethodId Refusal
main_in image class = by_linking (numbered_main (main_found image class))

-- ---- what calls answer

-- just what is given, or the refusal, unless memory was wanting
abbrev pub Answers : {X : Type 0} → Result X Refusal → Result X ProgramError → Type 0
Answers given (Ok x) = given ≡ Ok x
Answers given (Err error.Memory) = Unit {0}
Answers given (Err (error.Refused why)) = given ≡ Err why
