-- The listings of several classes are read as these classes.
use Rattle.std.proofs.Common.{◌≡◌, ℕ, suc, ◌+◌, ◌<◌, true, false, List, [], ◌∷◌, ◌++◌, length, None, Ok, refl, sym, ap, ◌∙◌, arith}
use Rattle.std.specs.Prelude.{All, Option, Result}
use Rattle.std.specs.List.{list_all, slice_split}
use Rattle.std.specs.Str.Lines.{lines, lines_of_parts}
use Rattle.std.proofs.lemmas.List.Elements.{All-nil, All-append, All-head, All-tail, All-from_recursion}
use Rattle.std.proofs.lemmas.List.Splits.{slice_split_at, length-slice_split}
use Rattle.std.proofs.lemmas.Result.{IfOk-at_ok}
use Rattle.dv_defs.specs.declared.class.ClassDef.{ClassDef}
use Rattle.dv_defs.specs.Body.{BodyValue}
use Rattle.dv_lex.specs.declared.line.Stop.{Stop}
use Rattle.dv_lex.specs.Laws.Lines.{is_printed}
use Rattle.dv_lex.specs.Lines.{is_line_feed, reading_of}
use Rattle.dv_print.specs.Listing.{class_text}
use Rattle.dv_coderead.specs.Bodies.{number_behind}
use Rattle.dv_coderead.specs.Giving.{◌>>>◌}
use Rattle.dv_coderead.specs.Pieces.{Piece}
use Rattle.dv_classread.specs.declared.class_line.ClassHead.{ClassHead}
use Rattle.dv_classread.specs.declared.class_line.ClassLine.TheVariants as line
use Rattle.dv_classread.specs.declared.class_line.Standing.{Standing}
use Rattle.dv_classread.specs.declared.class_line.Standing.TheVariants.{Outside, Inside}
use Rattle.dv_classread.specs.declared.program.ClassDraft.{ClassDraft}
use Rattle.dv_classread.specs.declared.program.MethodDraft.{MethodDraft}
use Rattle.dv_classread.specs.Assembling.{and_then, classes_of, methods_of}
use Rattle.dv_classread.specs.Classes.{classes_in}
use Rattle.dv_classread.specs.ClassLines.{is_object_name, lacks_super}
use Rattle.dv_classread.specs.Programs.{drafts_of}
use Rattle.dv_classread.specs.Texts.{Told, Says, InClass, added, told_from}
use Rattle.law_listing.specs.ClassListable.{IsListedBodyIfAny, IsListedClass}
use Rattle.law_listing.specs.ClassPieces.{class_pieces, ClassLinesAreRead, ClassLinesStand, FieldLinesAreRead, FieldLinesStand, InterfaceLinesAreRead, InterfaceLinesStand, MethodEndsAreRead, MethodEndsStand, MethodHeadersAreRead, MethodHeadersStand, SuperclassLinesAreRead, SuperclassLinesStand}
use Rattle.law_listing.specs.Laws.{PrintedLinesAreRead}
use Rattle.law_listing.specs.Printed.{HaveLines, NoLine, OneLine, numbered}
use Rattle.law_listing.specs.ProgramLaws.{ProgramsAreRead, classes_text, numbered_classes}
use Rattle.law_listing.proofs.Lines.{lines_append, no_feed, numbered_append}
use Rattle.law_listing.proofs.ClassListing.Bodies.{HasBodyLines}
use Rattle.law_listing.proofs.ClassListing.Kept.{Counts, lines_closed, lines_kept}
use Rattle.law_listing.proofs.ClassListing.Listed.{class_counts, class_stands, member_pieces, parent_pieces, parent_told, text_read}
use Rattle.law_listing.proofs.ClassListing.Methods.{methods_listed}
use Rattle.law_listing.proofs.ClassListing.Told.{Tell, line_told}
use Rattle.law_listing.proofs.Programs.Behind.{Goes, goes_on}
use Rattle.law_listing.proofs.Programs.Unmarked.{classes_unmarked}
use Rattle.law_listing.proofs.Programs.Parts.{HasNoPart, class_first, class_has_no_part, draft_at, head_at, nothing_has_no_part}

-- ---- how many lines there are

parts_more : (p : List ℕ) (parts : List (List ℕ)) → 0 < length parts → length (lines_of_parts (p ∷ parts)) ≡ suc (length (lines_of_parts parts))
parts_more p [] lt = absurd (omega arith)
parts_more p (q ∷ parts) lt = refl

line_more : (w rest : List ℕ) → list_all is_printed w ≡ true → length (lines (w ++ 10 ∷ rest)) ≡ suc (length (lines rest))
line_more w rest printed =
    let s : slice_split is_line_feed (w ++ 10 ∷ rest) ≡ w ∷ slice_split is_line_feed rest = slice_split_at is_line_feed w 10 rest (All-from_recursion (λ b. is_line_feed b ≡ false) w (no_feed w printed)) refl in
    ap (λ parts. length (lines_of_parts parts)) s ∙ parts_more w (slice_split is_line_feed rest) (omega (arith, length-slice_split is_line_feed rest))

-- a line of pieces for each line of the text
pub lines_count : (text : List ℕ) (pss : List (List Piece)) → HaveLines text pss → length (lines text) ≡ length pss
lines_count text pss NoLine = refl
lines_count text pss (OneLine w rest ps more h hs) = line_more w rest h.printed ∙ ap suc (lines_count rest more hs)

-- ---- what the lines tell

-- These lines tell classes that are assembled as these.
pub record TellClasses (past : ℕ) (s : Standing) (n : ℕ) (pss : List (List Piece)) (cs : List ClassDef) : Type 0 where
  pub tolds : List Told
  pub told : told_from None past (InClass s) (numbered n pss) ≡ Ok tolds
  pub none : HasNoPart tolds
  pub whole : classes_of (classes_in tolds) ≡ Ok cs

no_class_told : (past : ℕ) (s : Standing) (n : ℕ) → lacks_super s ≡ false → TellClasses past s n [] []
unfolding told_from classes_in classes_of
no_class_told past s n closed = record { tolds = []; told = rw closed refl; none = nothing_has_no_part; whole = refl }

drafts_whole : (n : ℕ) (c : ClassDef) (ds : List MethodDraft) (more : List ClassDraft) (cs : List ClassDef) → methods_of ds ≡ Ok c.methods → classes_of more ≡ Ok cs
    → classes_of (draft_at n c ds ∷ more) ≡ Ok (record c { line = n } ∷ cs)
unfolding classes_of
drafts_whole n c ds more cs e f = rw (e, f) refl

class_told : (past : ℕ) (s : Standing) (n next : ℕ) (c : ClassDef) (rest more : List (List Piece)) (cs : List ClassDef) → ClassLinesAreRead → IsListedClass c → lacks_super s ≡ false → next ≡ n + 1 + length rest
    → Tell past (Inside (is_object_name c.name) false) (n + 1) rest c.parent c.interfaces c.fields c.methods
    → ((t : Standing) → lacks_super t ≡ false → TellClasses past t next more cs)
    → TellClasses past s n (class_pieces c ∷ (rest ++ more)) (record c { line = n } ∷ cs)
class_told past s n next c rest more cs read h closed place t behind =
    let head : ClassHead = head_at n c in
    let inside : Standing = Inside (is_object_name c.name) false in
    let g : Goes past (InClass inside) (numbered (n + 1) rest) t.tolds = IfOk-at_ok (Goes past (InClass inside) (numbered (n + 1) rest)) t.told (goes_on past (InClass inside) (numbered (n + 1) rest)) in
    let u = behind g.standing g.closed in
    let both = numbered_append (n + 1) rest more ∙ ap (λ m. numbered (n + 1) rest ++ numbered m more) (sym place) in
    record {
      tolds = Says (line.Class head) ∷ (t.tolds ++ u.tolds);
      told = line_told None past s n (class_pieces c) (line.Class head) (numbered (n + 1) (rest ++ more)) (read c s n h.name h.flags closed)
          ∙ ap (λ ls. added (line.Class head) (told_from None past (InClass inside) ls)) both
          ∙ ap (added (line.Class head)) (g.goes None (numbered next more))
          ∙ ap (λ r. added (line.Class head) (and_then t.tolds r)) u.told;
      none = class_has_no_part head (t.tolds ++ u.tolds);
      whole = ap classes_of (class_first n c t.tolds u.tolds t.drafts t.parts u.none) ∙ drafts_whole n c t.drafts (classes_in u.tolds) cs t.whole u.whole;
    }

-- ---- all classes

-- Lines that are the listings of these classes, and tell them.
pub record ListClasses (cs : List ClassDef) : Type 0 where
  pub pieces : List (List Piece)
  pub lines : HaveLines (classes_text cs) pieces
  pub count : All Counts pieces
  pub told : (past : ℕ) (s : Standing) → lacks_super s ≡ false → (n : ℕ) → TellClasses past s n pieces (numbered_classes n cs)

module _ (bodies : (o : Option BodyValue) → IsListedBodyIfAny o → HasBodyLines o) (class : ClassLinesStand) (super : SuperclassLinesStand) (interface : InterfaceLinesStand) (field : FieldLinesStand) (header : MethodHeadersStand) (end : MethodEndsStand) where
  pub classes_listed : ClassLinesAreRead → SuperclassLinesAreRead → InterfaceLinesAreRead → FieldLinesAreRead → MethodHeadersAreRead → MethodEndsAreRead
      → (cs : List ClassDef) → All IsListedClass cs → ListClasses cs
  classes_listed class_read super_read interface_read field_read header_read end_read [] all = record {
    pieces = [];
    lines = NoLine;
    count = All-nil Counts;
    told = λ past s closed n. no_class_told past s n closed;
  }
  classes_listed class_read super_read interface_read field_read header_read end_read (c ∷ cs) all =
      let h = All-head IsListedClass c cs all in
      let more = classes_listed class_read super_read interface_read field_read header_read end_read cs (All-tail IsListedClass c cs all) in
      let m = methods_listed bodies header end header_read end_read c.methods h.methods in
      let rest = parent_pieces c.parent ++ member_pieces c.interfaces c.fields m.pieces in
      let own : HaveLines (class_text c) (class_pieces c ∷ rest) = class_stands class super interface field c h m.pieces m.lines in
      let count = lines_count (class_text c) (class_pieces c ∷ rest) own in
      record {
        pieces = class_pieces c ∷ (rest ++ more.pieces);
        lines = lines_append (class_text c) (classes_text cs) (class_pieces c ∷ rest) more.pieces own more.lines;
        count = All-append Counts (class_pieces c ∷ rest) more.pieces (class_counts c m.pieces m.count) more.count;
        told = λ past s closed n.
            let next : ℕ = n + length (lines (class_text c)) in
            let t = parent_told interface_read field_read past c.interfaces c.fields c.methods h.interfaces h.fields m super_read (is_object_name c.name) c.parent h.parent (n + 1) in
            class_told past s n next c rest more.pieces (numbered_classes next cs) class_read h closed (omega (arith, count)) t (λ r fit. more.told past r fit next);
      }

-- the classes that such lines tell, before their bodies are assembled
pub classes_drafted : (past n : ℕ) (pss : List (List Piece)) (cs : List ClassDef) → All Counts pss → (t : TellClasses past Outside n pss cs) → drafts_of None past (numbered n pss) ≡ Ok (classes_in t.tolds)
classes_drafted past n pss cs count t =
    ap (λ ls. told_from None past (InClass Outside) ls >>> λ ts. Ok (classes_in ts)) (lines_kept n pss count)
    ∙ ap (λ (r : Result (List Told) Stop). r >>> λ ts. Ok (classes_in ts)) t.told

-- ---- the law

pub programs_read : PrintedLinesAreRead → ((cs : List ClassDef) → All IsListedClass cs → ListClasses cs) → ProgramsAreRead
programs_read read listed cs all =
    let l = listed cs all in
    let past = number_behind (numbered 1 l.pieces) in
    let t = l.told past Outside refl 1 in
    let r = read (classes_text cs) l.pieces (classes_unmarked cs) l.lines in
    text_read (reading_of (classes_text cs)) l.pieces (classes_in t.tolds) (numbered_classes 1 cs) r.well r.lines (lines_closed 1 l.pieces l.count)
    (classes_drafted past 1 l.pieces (numbered_classes 1 cs) l.count t) t.whole
