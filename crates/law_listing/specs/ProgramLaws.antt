-- The laws of the listing of several classes, one after another, and of a schedule behind them.
use Rattle.std.specs.Prelude.{◌≡◌, ◌↔◌, ℕ, ◌+◌, Bool, true, false, List, [], ◌∷◌, ◌++◌, All, length, codes, Ok}
use Rattle.std.specs.List.{flat_map}
use Rattle.std.specs.Str.Lines.{lines}
use Rattle.dv_defs.specs.declared.class.ClassDef.{ClassDef}
use Rattle.dv_defs.specs.declared.run.Entry.{Entry}
use Rattle.dv_lex.specs.Grammar.{IsLexeme}
use Rattle.dv_lex.specs.Lexemes.{Lexeme}
use Rattle.dv_lex.specs.Lines.{reading_of}
use Rattle.dv_log.specs.Reading.{AreEntry}
use Rattle.dv_log.specs.Writing.{log_text, IsEntry}
use Rattle.dv_print.specs.Listing.{class_text}
use Rattle.dv_coderead.specs.Pieces.{pieces_of}
use Rattle.dv_classread.specs.declared.schedule.LogLine.TheVariants as says
use Rattle.dv_classread.specs.declared.text.Read.{Read}
use Rattle.dv_classread.specs.Programs.{program_of}
use Rattle.dv_classread.specs.Schedules.{entry_in, log_line}
use Rattle.law_listing.specs.ClassListable.{IsListedClass}

-- the listings of these classes, one after another
abbrev pub classes_text : List ClassDef → List ℕ
classes_text cs = flat_map class_text cs

-- the classes as those of this text, the first of which begins on the line of this number
abbrev pub numbered_classes : ℕ → List ClassDef → List ClassDef
numbered_classes n [] = []
numbered_classes n (c ∷ cs) = record c { line = n } ∷ numbered_classes (n + length (lines (class_text c))) cs

-- The listings of several classes are read as these classes, but for their lines.
abbrev pub ProgramsAreRead : Type 0
ProgramsAreRead =
    (cs : List ClassDef) → All IsListedClass cs → program_of false (reading_of (classes_text cs)) ≡ Ok (record { classes = numbered_classes 1 cs; log = [] })

-- Whatever text was read, the listings of its classes are read as these classes, but for their lines.
abbrev pub ReadProgramsAreReadAgain : Type 0
ReadProgramsAreReadAgain =
    (schedule : Bool) (text : List ℕ) (r : Read) → program_of schedule (reading_of text) ≡ Ok r
    → program_of false (reading_of (classes_text r.classes)) ≡ Ok (record { classes = numbered_classes 1 r.classes; log = [] })

-- The listings of these classes don't hang on their lines: what is read of listings has the same listings.
abbrev pub ListingsHaveNoLines : Type 0
ListingsHaveNoLines = (n : ℕ) (cs : List ClassDef) → classes_text (numbered_classes n cs) ≡ classes_text cs

-- the lines of a schedule, as they stand behind classes
abbrev pub schedule_text : List Entry → List ℕ
schedule_text log = codes ".schedule\n" ++ (log_text log ++ codes ".end schedule\n")

-- The listings of several classes with a schedule behind them are read as these classes, but for their lines, and as that schedule.
abbrev pub SchedulesAreRead : Type 0
SchedulesAreRead =
    (cs : List ClassDef) (log : List Entry) → All IsListedClass cs → All IsEntry log
    → program_of true (reading_of (classes_text cs ++ schedule_text log)) ≡ Ok (record { classes = numbered_classes 1 cs; log = log })

-- Whatever text was read, the listings of its classes with its schedule behind them are read as these classes, but for their lines, and as that
-- schedule.
abbrev pub ReadSchedulesAreReadAgain : Type 0
ReadSchedulesAreReadAgain =
    (schedule : Bool) (text : List ℕ) (r : Read) → program_of schedule (reading_of text) ≡ Ok r
    → program_of true (reading_of (classes_text r.classes ++ schedule_text r.log)) ≡ Ok (record { classes = numbered_classes 1 r.classes; log = r.log })

-- The tokens of a line are an entry of a schedule that stands alone exactly where they are read as that entry behind classes.
abbrev pub EntriesAreReadAlike : Type 0
EntriesAreReadAlike = (tokens : List Lexeme) (e : Entry) → All IsLexeme tokens → AreEntry tokens e ↔ (entry_in (pieces_of tokens) ≡ Ok e)

-- The tokens say the same on a line of a schedule that stands alone and on one behind classes: nothing, or this entry.
pub record IsReadAlike (tokens : List Lexeme) : Type 0 where
  pub nothing : (tokens ≡ []) ↔ (log_line (pieces_of tokens) ≡ Ok says.Nothing)
  pub entry : (e : Entry) → AreEntry tokens e ↔ (log_line (pieces_of tokens) ≡ Ok (says.One e))

abbrev pub LogLinesAreReadAlike : Type 0
LogLinesAreReadAlike = (tokens : List Lexeme) → All IsLexeme tokens → IsReadAlike tokens
