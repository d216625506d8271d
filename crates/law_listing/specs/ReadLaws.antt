-- What is read can be listed: names, types and numbers that are read of a text are those that can be printed.
use Rattle.std.specs.Prelude.{◌≡◌, ℕ, ◌^◌, ◌<◌, Bool, false, IsSome, IsUtf8, List, [], ◌∷◌, All, map, Ok}
use Rattle.dv_defs.specs.declared.class.ClassDef.{ClassDef}
use Rattle.dv_defs.specs.Body.{BodyValue}
use Rattle.dv_defs.specs.Spelling.{AreUnits}
use Rattle.dv_optable.specs.Table.{format_at}
use Rattle.dv_lex.specs.Lines.{reading_of}
use Rattle.dv_draft.specs.declared.draft.Draftop.{Draftop}
use Rattle.dv_draft.specs.Draft.{DraftValue}
use Rattle.dv_asm.specs.Layout.{layout}
use Rattle.dv_print.specs.Listing.{class_text}
use Rattle.dv_coderead.specs.declared.words.Frame.{Frame}
use Rattle.dv_coderead.specs.Bodies.{body_from}
use Rattle.dv_coderead.specs.Kept.{TextLine, line_of}
use Rattle.dv_coderead.specs.Operands.{operands_in}
use Rattle.dv_coderead.specs.Pieces.{Piece, AWord, AMark, AString, ACharacter}
use Rattle.dv_coderead.specs.RawBodies.{raw_body_from}
use Rattle.dv_classread.specs.declared.class_line.ClassHead.{ClassHead}
use Rattle.dv_classread.specs.declared.class_line.ClassLine.TheVariants as line
use Rattle.dv_classread.specs.declared.class_line.ClassLine.{ClassLine}
use Rattle.dv_classread.specs.declared.class_line.Signature.{Signature}
use Rattle.dv_classread.specs.declared.class_line.Standing.{Standing}
use Rattle.dv_classread.specs.declared.text.Read.{Read}
use Rattle.dv_classread.specs.ClassLines.{class_line}
use Rattle.dv_classread.specs.Programs.{program_of}
use Rattle.law_listing.specs.ClassListable.{IsListedClass}
use Rattle.law_listing.specs.ClassPieces.{HasKnownFlags, IsClassText, IsListedField, IsProtoText}
use Rattle.law_listing.specs.DraftListable.{IsListedDraft}
use Rattle.law_listing.specs.Listable.{AreStringUnits, IsListedOp, IsNameText}
use Rattle.law_listing.specs.ListingLaws.{as_first}
use Rattle.law_listing.specs.RawListable.{IsListedRaw}

-- ---- pieces

-- a word in UTF-8, and units of 16 bits
abbrev pub IsPieceText : Piece → Type 0
IsPieceText (AWord w) = IsUtf8 w
IsPieceText (AMark b) = Unit {0}
IsPieceText (AString units) = AreStringUnits units
IsPieceText (ACharacter unit) = unit < 2 ^ 16

abbrev pub ArePieceTexts : List Piece → Type 0
ArePieceTexts ps = All IsPieceText ps

abbrev pub IsLineText : TextLine → Type 0
IsLineText l = ArePieceTexts l.pieces

abbrev pub AreLineTexts : List TextLine → Type 0
AreLineTexts ls = All IsLineText ls

-- the good lines of any text have such pieces
abbrev pub ReadLinesAreTexts : Type 0
ReadLinesAreTexts = (text : List ℕ) → AreLineTexts (map line_of (reading_of text).lines)

-- ---- the lines of a class

pub record IsClassHeadText (h : ClassHead) : Type 0 where
  pub name : IsClassText h.name
  pub flags : HasKnownFlags h.flags

pub record IsSignatureText (s : Signature) : Type 0 where
  pub name : IsNameText s.name
  pub proto : IsProtoText s.proto
  pub flags : HasKnownFlags s.flags

abbrev pub IsClassLineText : ClassLine → Type 0
IsClassLineText (line.Class h) = IsClassHeadText h
IsClassLineText (line.Super name) = IsClassText name
IsClassLineText (line.Implements name) = IsClassText name
IsClassLineText line.Source = Unit {0}
IsClassLineText (line.Field f) = IsListedField f
IsClassLineText (line.Method s) = IsSignatureText s

-- whatever a line of a class says can be listed
abbrev pub ReadClassLinesAreListed : Type 0
ReadClassLinesAreListed = (s : Standing) (n : ℕ) (ps : List Piece) (l : ClassLine) → ArePieceTexts ps → class_line s n ps ≡ Ok l → IsClassLineText l

-- ---- instructions

-- the instruction that operands of an opcode of the table give can be listed
abbrev pub ReadOperandsAreListed : Type 0
ReadOperandsAreListed =
    (frame : Frame) (op : ℕ) (ps : List Piece) (d : Draftop) → IsSome (format_at op) → ArePieceTexts ps → operands_in frame op ps ≡ Ok d → IsListedOp d

-- ---- bodies

-- the draft that the lines of a method give can be listed
abbrev pub ReadBodiesAreListed : Type 0
ReadBodiesAreListed =
    (arguments past annotations : ℕ) (ls : List TextLine) (d : DraftValue) → AreLineTexts ls → body_from arguments past annotations ls ≡ Ok d → IsListedDraft d

-- and so can the raw body that they give
abbrev pub ReadRawBodiesAreListed : Type 0
ReadRawBodiesAreListed = (past annotations : ℕ) (ls : List TextLine) (b : BodyValue) → AreLineTexts ls → raw_body_from past annotations ls ≡ Ok b → IsListedRaw b

-- the units of a layout have 16 bits
abbrev pub LayoutsHaveUnits : Type 0
LayoutsHaveUnits = (d : DraftValue) → AreUnits (layout d).units

-- ---- classes

-- whatever text was read, its classes can be listed
abbrev pub ReadClassesAreListed : Type 0
ReadClassesAreListed = (schedule : Bool) (text : List ℕ) (r : Read) → program_of schedule (reading_of text) ≡ Ok r → All IsListedClass r.classes

abbrev pub IsReadAgain : ClassDef → Type 0
IsReadAgain c = program_of false (reading_of (class_text c)) ≡ Ok (record { classes = as_first c ∷ []; log = [] })

-- and the listing of each is read as that class, but for its line
abbrev pub ReadClassesAreReadAgain : Type 0
ReadClassesAreReadAgain = (schedule : Bool) (text : List ℕ) (r : Read) → program_of schedule (reading_of text) ≡ Ok r → All IsReadAgain r.classes
