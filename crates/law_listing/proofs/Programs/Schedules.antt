-- The listings of several classes with a schedule behind them are read as these classes and that schedule.
use Rattle.std.proofs.Common.{◌≡◌, ℕ, ◌+◌, true, List, ◌++◌, length, map, None, Some, Ok, refl, ap, ◌∙◌}
use Rattle.std.specs.Prelude.{All, Option, Result}
use Rattle.std.proofs.lemmas.Result.{IfOk-at_ok}
use Rattle.dv_defs.specs.declared.class.ClassDef.{ClassDef}
use Rattle.dv_defs.specs.declared.run.Entry.{Entry}
use Rattle.dv_lex.specs.declared.line.Stop.{Stop}
use Rattle.dv_lex.specs.Lines.{Reading, reading_of}
use Rattle.dv_coderead.specs.Bodies.{number_behind}
use Rattle.dv_coderead.specs.Giving.{◌>>>◌}
use Rattle.dv_coderead.specs.Kept.{TextLine, line_of}
use Rattle.dv_classread.specs.declared.class_line.Standing.TheVariants.{Outside}
use Rattle.dv_classread.specs.declared.program.ClassDraft.{ClassDraft}
use Rattle.dv_classread.specs.Assembling.{classes_of}
use Rattle.dv_classread.specs.Classes.{classes_in}
use Rattle.dv_classread.specs.Programs.{assembled_drafts, by_cut, drafts_in, drafts_of, program_of}
use Rattle.dv_classread.specs.Schedules.{Cut, cut_at_schedule, schedule_from}
use Rattle.dv_classread.specs.Texts.{InClass}
use Rattle.law_listing.specs.ClassListable.{IsListedClass}
use Rattle.law_listing.specs.Laws.{PrintedLinesAreRead}
use Rattle.law_listing.specs.Printed.{numbered}
use Rattle.law_listing.specs.ProgramLaws.{SchedulesAreRead, classes_text, numbered_classes, schedule_text}
use Rattle.law_listing.proofs.Lines.{lines_append}
use Rattle.law_listing.proofs.Programs.Cutting.{BeginsNone, cut_found, told_none}
use Rattle.law_listing.proofs.Programs.Entries.{begin_head, begin_pieces, log_pieces, log_read, schedule_pieces, schedule_stands}
use Rattle.law_listing.proofs.Programs.Read.{ListClasses, classes_drafted}
use Rattle.law_listing.proofs.Programs.Unmarked.{schedule_unmarked}

text_read : (r : Reading) (ls : List TextLine) (c : Cut) (cs : List ClassDraft) (ds : List ClassDef) (es : List Entry) → r.stop ≡ None → map line_of r.lines ≡ ls → cut_at_schedule 0 ls ≡ Some c
    → drafts_of None c.first.number c.before ≡ Ok cs → schedule_from None (number_behind ls) c.first c.behind ≡ Ok es → classes_of cs ≡ Ok ds
    → program_of true r ≡ Ok (record { classes = ds; log = es })
unfolding program_of drafts_in
text_read r ls c cs ds es well lines cut drafts schedule whole =
    ap (λ stop. drafts_in true stop (map line_of r.lines) >>> assembled_drafts) well ∙ ap (λ l. drafts_in true None l >>> assembled_drafts) lines
    ∙ ap (λ (o : Option Cut). by_cut None ls o >>> assembled_drafts) cut
    ∙ ap (λ (d : Result (List ClassDraft) Stop). (d >>> λ xs. schedule_from None (number_behind ls) c.first c.behind >>> λ log. Ok (xs, log)) >>> assembled_drafts) drafts
    ∙ ap (λ (d : Result (List Entry) Stop). (d >>> λ log. Ok (cs, log)) >>> assembled_drafts) schedule
    ∙ ap (λ (d : Result (List ClassDef) Stop). d >>> λ classes. Ok (record { classes = classes; log = es })) whole

pub schedules_read : PrintedLinesAreRead → ((cs : List ClassDef) → All IsListedClass cs → ListClasses cs) → SchedulesAreRead
schedules_read read listed cs es all entries =
    let l = listed cs all in
    let at : ℕ = 1 + length l.pieces in
    let t = l.told at Outside refl 1 in
    let pss = l.pieces ++ schedule_pieces es in
    let none : All BeginsNone (numbered 1 l.pieces) = IfOk-at_ok (λ _. All BeginsNone (numbered 1 l.pieces)) t.told (told_none at (InClass Outside) (numbered 1 l.pieces)) in
    let c : Cut = record { before = numbered 1 l.pieces; first = record { number = at; pieces = begin_pieces }; behind = numbered (at + 1) (log_pieces es) } in
    let r = read (classes_text cs ++ schedule_text es) pss (schedule_unmarked cs es) (lines_append (classes_text cs) (schedule_text es) l.pieces (schedule_pieces es) l.lines (schedule_stands es entries)) in
    text_read (reading_of (classes_text cs ++ schedule_text es)) (numbered 1 pss) c (classes_in t.tolds) (numbered_classes 1 cs) es r.well r.lines
    (cut_found 1 l.pieces begin_pieces (log_pieces es) l.count none begin_head) (classes_drafted at 1 l.pieces (numbered_classes 1 cs) l.count t)
    (log_read (number_behind (numbered 1 pss)) (at + 1) es entries) t.whole
