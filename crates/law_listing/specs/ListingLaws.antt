-- The law of the listing of a class.
use Rattle.std.specs.Prelude.{◌≡◌, false, [], ◌∷◌, Ok}
use Rattle.dv_defs.specs.declared.class.ClassDef.{ClassDef}
use Rattle.dv_lex.specs.Lines.{reading_of}
use Rattle.dv_print.specs.Listing.{class_text}
use Rattle.dv_classread.specs.Programs.{program_of}
use Rattle.law_listing.specs.ClassListable.{IsListedClass}

-- the class as one of this text: it begins on the first line
abbrev pub as_first : ClassDef → ClassDef
as_first c = record c { line = 1 }

-- The listing of a class is read as that class, but for its line.
abbrev pub ListingsAreRead : Type 0
ListingsAreRead =
    (c : ClassDef) → IsListedClass c → program_of false (reading_of (class_text c)) ≡ Ok (record { classes = as_first c ∷ []; log = [] })
