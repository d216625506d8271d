-- What is true of each text, and of each main method.
use Rattle.std.specs.Prelude.{◌≡◌, ℕ, Bool, List, length, Ok}
use Rattle.dv_defs.specs.declared.names.MethodId.{MethodId}
use Rattle.dv_defs.specs.Boot.{class_rows}
use Rattle.dv_defs.specs.Images.{Image}
use Rattle.dv_defs.specs.Linked.{AreNamed, IsImage}
use Rattle.dv_defs.specs.Pools.{Method}
use Rattle.dv_lex.specs.Lines.{Reading}
use Rattle.dv_classread.specs.declared.text.Read.{Read}
use Rattle.dv_classread.specs.Programs.{program_of}
use Rattle.dv_machine.specs.Mains.{IsMain}
use Rattle.dv_load.specs.declared.program.Scheduled.{Scheduled}
use Rattle.dv_load.specs.Images.{boot_classes, boot_count, image_in, main_in, scheduled_in}

-- each class that is read has a name
abbrev pub ReadClassesAreNamed : Type 0
ReadClassesAreNamed = (schedule : Bool) (r : Reading) (read : Read) → program_of schedule r ≡ Ok read → AreNamed read.classes

abbrev pub BootClassesAreNamed : Type 0
BootClassesAreNamed = AreNamed boot_classes

-- the table of boot classes has a row for each of them
abbrev pub RowsAreCounted : Type 0
RowsAreCounted = length class_rows ≡ boot_count

-- the image of a text is one that linking gives
abbrev pub TextsGiveImages : Type 0
TextsGiveImages = (bytes : List ℕ) (image : Image) → image_in bytes ≡ Ok image → IsImage image

-- so is the image of a text with a schedule
abbrev pub ScheduledTextsGiveImages : Type 0
ScheduledTextsGiveImages = (bytes : List ℕ) (s : Scheduled) → scheduled_in bytes ≡ Ok s → IsImage s.image

-- what is found in an image as the main method of a class is one, by its number: the image has it, it is static, is called main and
-- has a body, takes nothing or an array of strings, and gives nothing
abbrev pub MainsAreMain : Type 0
MainsAreMain = (image : Image) (class : List ℕ) (id : MethodId) → main_in image class ≡ Ok id → (main : Method) × IsMain image main × (main.id ≡ id.0)
