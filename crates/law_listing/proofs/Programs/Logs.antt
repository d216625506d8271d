-- The schedule that is read of a text has entries in range.
use Rattle.std.proofs.Common.{ℕ, ◌≤◌, ◌&&◌, Bool, true, false, List, [], ◌∷◌, map, Option, Some, None, IfSome, ℤ, pos, Result, Ok, Err, IfOk}
use Rattle.std.specs.Prelude.{All, nat_le}
use Rattle.std.proofs.lemmas.Bool.{and_parts, cond_both, leb-true}
use Rattle.std.proofs.lemmas.List.Elements.{All-nil, All-cons}
use Rattle.dv_defs.specs.declared.faults.LineKind.{LineKind}
use Rattle.dv_defs.specs.declared.run.Entry.{Entry}
use Rattle.dv_lex.specs.declared.line.Stop.{Stop}
use Rattle.dv_lex.specs.Lines.{Reading}
use Rattle.dv_log.specs.Writing.{IsEntry}
use Rattle.dv_coderead.specs.declared.head.Directive.TheVariants as directive
use Rattle.dv_coderead.specs.declared.head.Head.{Head}
use Rattle.dv_coderead.specs.declared.head.Head.TheVariants as head
use Rattle.dv_coderead.specs.Bodies.{number_behind}
use Rattle.dv_coderead.specs.Heads.{head_of}
use Rattle.dv_coderead.specs.Kept.{TextLine, kept, line_of, open_behind}
use Rattle.dv_coderead.specs.Operands.{after_first, ended}
use Rattle.dv_coderead.specs.Pieces.{Piece, AWord}
use Rattle.dv_coderead.specs.Words.{literal_in}
use Rattle.dv_classread.specs.declared.schedule.LogLine.{LogLine}
use Rattle.dv_classread.specs.declared.schedule.LogLine.TheVariants as log
use Rattle.dv_classread.specs.declared.text.Read.{Read}
use Rattle.dv_classread.specs.Assembling.{classes_of}
use Rattle.dv_classread.specs.Programs.{Drafts, assembled_drafts, by_cut, drafts_in, drafts_of, program_of, text_end, with_schedule, without_schedule}
use Rattle.dv_classread.specs.Schedules.{Cut, and_entry, cut_at_schedule, end_with, entry_by, entry_in, field_in, first_behind, in_range, log_from, log_line, log_line_by, log_said, log_with, nothing_behind, schedule_from}
use Rattle.law_listing.proofs.Programs.Cutting.{always}
use Rattle.law_listing.proofs.ReadBody.{line_then, then_listed}

-- ---- entries

abbrev IsWithin : ℕ → ℕ → Option ℕ → Type 0
IsWithin low high o = IfSome o (λ n. (low ≤ n) × (n ≤ high))

number_within : (low high : ℕ) (r : Result ℤ LineKind) → IsWithin low high (in_range low high r)
number_within low high (Ok (pos n)) =
    cond_both (nat_le low n && nat_le n high) (Some n) None (IsWithin low high)
    (λ e. let p = and_parts (nat_le low n) (nat_le n high) e in (leb-true low n p.0, leb-true n high p.1)) (λ _. tt)
number_within low high r = tt

field_within : (low high : ℕ) (p : Piece) → IsWithin low high (field_in low high p)
field_within low high (AWord w) = number_within low high (literal_in 64 w)
field_within low high p = tt

fields_listed : (w t s : Option ℕ) → IsWithin 0 7 w → IsWithin 0 63 t → IsWithin 1 256 s → IfOk (entry_by w t s) IsEntry
fields_listed (Some w) (Some t) (Some s) worker thread steps = (worker.1, thread.1, steps.0, steps.1)
fields_listed w t s worker thread steps = tt

entry_listed : (ps : List Piece) → IfOk (entry_in ps) IsEntry
unfolding entry_in
entry_listed (a ∷ b ∷ c ∷ []) = fields_listed (field_in 0 7 a) (field_in 0 63 b) (field_in 1 256 c) (field_within 0 7 a) (field_within 0 63 b) (field_within 1 256 c)
entry_listed ps = tt

-- ---- lines

abbrev IsLogLine : LogLine → Type 0
IsLogLine (log.One e) = IsEntry e
IsLogLine l = Unit {0}

said_listed : {A : Type 0} (f : A → LogLine) (read : Result A LineKind) → IfOk read (λ x. IsLogLine (f x)) → IfOk (log_said f read) IsLogLine
said_listed f (Ok x) is = is
said_listed f (Err k) is = tt

line_by_listed : (h : Head) (ps : List Piece) → IfOk (log_line_by h ps) IsLogLine
line_by_listed head.Blank ps = tt
line_by_listed (head.Directive directive.EndSchedule) ps = said_listed (λ (nothing : Unit {0}). log.End) (ended (after_first (after_first ps))) (always (Unit {0}) (ended (after_first (after_first ps))) tt)
line_by_listed h ps = said_listed log.One (entry_in ps) (entry_listed ps)

line_listed : (ps : List Piece) → IfOk (log_line ps) IsLogLine
unfolding log_line
line_listed ps = line_by_listed (head_of ps) ps

entry_more : (e : Entry) (more : Result (List Entry) Stop) → IsEntry e → IfOk more (All IsEntry) → IfOk (and_entry e more) (All IsEntry)
entry_more e (Ok es) is are = All-cons IsEntry e es is are
entry_more e (Err f) is are = tt

with_listed : (l : LogLine) (more last : Result (List Entry) Stop) → IsLogLine l → IfOk more (All IsEntry) → IfOk last (All IsEntry) → IfOk (log_with l more last) (All IsEntry)
with_listed log.Nothing more last is others end = others
with_listed (log.One e) more last is others end = entry_more e more is others
with_listed log.End more last is others end = end

first_listed : (end : Option Stop) (ls : List TextLine) → IfOk (first_behind end ls) (All IsEntry)
first_listed None [] = All-nil IsEntry
first_listed (Some e) [] = tt
first_listed end (l ∷ ls) = tt

log_listed : (stop : Option Stop) (past : ℕ) (ls : List TextLine) → IfOk (log_from stop past ls) (All IsEntry)
unfolding log_from
log_listed stop past [] = tt
log_listed stop past (l ∷ ls) =
    line_then IsLogLine (All IsEntry) l.number (log_line l.pieces) _ (line_listed l.pieces) (λ s is.
    with_listed s (log_from stop past ls) (nothing_behind stop past ls) is (log_listed stop past ls) (first_listed (end_with stop past (open_behind 0 ls)) (kept 0 ls)))

schedule_listed : (stop : Option Stop) (past : ℕ) (first : TextLine) (ls : List TextLine) → IfOk (schedule_from stop past first ls) (All IsEntry)
schedule_listed stop past first ls =
    line_then (λ _. Unit {0}) (All IsEntry) first.number (ended (after_first first.pieces)) _ (always (Unit {0}) (ended (after_first first.pieces)) tt) (λ _ _. log_listed stop past ls)

-- ---- the whole text

abbrev HasLog : Drafts → Type 0
HasLog d = All IsEntry d.1

alone_listed : (stop : Option Stop) (ls : List TextLine) → IfOk (without_schedule stop ls) HasLog
alone_listed stop ls =
    let read = drafts_of (text_end stop ls) (number_behind ls) ls in
    then_listed (λ _. Unit {0}) HasLog read _ (always (Unit {0}) read tt) (λ cs _. All-nil IsEntry)

scheduled_listed : (stop : Option Stop) (past : ℕ) (c : Cut) → IfOk (with_schedule stop past c) HasLog
scheduled_listed stop past c =
    let read = drafts_of None c.first.number c.before in
    then_listed (λ _. Unit {0}) HasLog read _ (always (Unit {0}) read tt) (λ cs _.
    then_listed (All IsEntry) HasLog (schedule_from stop past c.first c.behind) _ (schedule_listed stop past c.first c.behind) (λ log are. are))

cut_listed : (stop : Option Stop) (ls : List TextLine) (o : Option Cut) → IfOk (by_cut stop ls o) HasLog
cut_listed stop ls None = alone_listed stop ls
cut_listed stop ls (Some c) = scheduled_listed stop (number_behind ls) c

drafts_listed : (schedule : Bool) (stop : Option Stop) (ls : List TextLine) → IfOk (drafts_in schedule stop ls) HasLog
unfolding drafts_in
drafts_listed false stop ls = alone_listed stop ls
drafts_listed true stop ls = cut_listed stop ls (cut_at_schedule 0 ls)

pub log_of_listed : (schedule : Bool) (r : Reading) → IfOk (program_of schedule r) (λ x. All IsEntry x.log)
unfolding program_of
log_of_listed schedule r =
    let P : Read → Type 0 = λ x. All IsEntry x.log in
    then_listed HasLog P (drafts_in schedule r.stop (map line_of r.lines)) assembled_drafts (drafts_listed schedule r.stop (map line_of r.lines)) (λ d are.
    then_listed (λ _. Unit {0}) P (classes_of d.0) _ (always (Unit {0}) (classes_of d.0) tt) (λ cs _. are))
