-- Each entry of the schedule of a text is one that a log may have.
use Rattle.std.proofs.Common.{◌≡◌, ℕ, ◌≤◌, ◌&&◌, Bool, true, false, List, [], ◌∷◌, map, Option, Some, None, IfSome, ℤ, pos, Result, Ok, Err, IfOk, subst, arith}
use Rattle.std.specs.Prelude.{All, nat_le}
use Rattle.std.proofs.lemmas.Bool.{and_parts, cond_both, leb-true}
use Rattle.std.proofs.lemmas.List.Elements.{All-cons, All-nil}
use Rattle.dv_defs.specs.declared.faults.LineKind.{LineKind}
use Rattle.dv_defs.specs.declared.run.Entry.{Entry}
use Rattle.dv_defs.specs.Images.{Image}
use Rattle.dv_lex.specs.declared.line.Stop.{Stop}
use Rattle.dv_lex.specs.Lines.{Reading, reading_of}
use Rattle.dv_coderead.specs.declared.head.Directive.TheVariants as directive
use Rattle.dv_coderead.specs.declared.head.Head.{Head}
use Rattle.dv_coderead.specs.declared.head.Head.TheVariants as head
use Rattle.dv_coderead.specs.Bodies.{number_behind}
use Rattle.dv_coderead.specs.Giving.{◌>>>◌, on_line}
use Rattle.dv_coderead.specs.Heads.{head_of}
use Rattle.dv_coderead.specs.Kept.{TextLine, kept, line_of, open_behind}
use Rattle.dv_coderead.specs.Operands.{after_first, ended}
use Rattle.dv_coderead.specs.Pieces.{AWord, Piece}
use Rattle.dv_coderead.specs.Words.{literal_in}
use Rattle.dv_classread.specs.declared.schedule.LogLine.{LogLine}
use Rattle.dv_classread.specs.declared.schedule.LogLine.TheVariants as log
use Rattle.dv_classread.specs.declared.text.Read.{Read}
use Rattle.dv_classread.specs.Assembling.{classes_of}
use Rattle.dv_classread.specs.Programs.{Drafts, assembled_drafts, by_cut, drafts_in, drafts_of, program_of, text_end, with_schedule, without_schedule}
use Rattle.dv_classread.specs.Schedules.{Cut, and_entry, cut_at_schedule, end_with, entry_by, entry_in, field_in, first_behind, in_range, log_from, log_line, log_line_by, log_said, log_with, nothing_behind, schedule_from}
use Rattle.dv_console.specs.declared.refusals.Refusal.{Refusal}
use Rattle.dv_load.specs.declared.program.Scheduled.{Scheduled}
use Rattle.dv_load.specs.Images.{by_scheduled, image_of, scheduled_in, with_log}
use Rattle.dv_workers.specs.Entries.{IsOfWorker}

-- ---- what is read behind what

always : {A : Type 0} (r : Result A Stop) → IfOk r (λ x. Unit {0})
always (Ok x) = tt
always (Err e) = tt

then_holds : {A B : Type 0} (P : A → Type 0) (Q : B → Type 0) (r : Result A Stop) (f : A → Result B Stop) → IfOk r P → ((x : A) → P x → IfOk (f x) Q) → IfOk (r >>> f) Q
then_holds P Q (Ok x) f is more = more x is
then_holds P Q (Err e) f is more = tt

on_line_holds : {A : Type 0} (P : A → Type 0) (n : ℕ) (r : Result A LineKind) → IfOk r P → IfOk (on_line n r) P
on_line_holds P n (Ok x) is = is
on_line_holds P n (Err k) is = tt

-- ---- entries

abbrev IsWithin : ℕ → ℕ → Option ℕ → Type 0
IsWithin low high o = IfSome o (λ n. (low ≤ n) × (n ≤ high))

number_within : (low high : ℕ) (r : Result ℤ LineKind) → IsWithin low high (in_range low high r)
number_within low high (Ok (pos n)) =
    cond_both (nat_le low n && nat_le n high) (Some n) None (IsWithin low high)
    (λ e. let p = and_parts (nat_le low n) (nat_le n high) e in (leb-true low n p.0, leb-true n high p.1)) (λ _. tt)
number_within low high r = tt

field_within : (low high : ℕ) (p : Piece) → IsWithin low high (field_in low high p)
field_within low high (AWord w) = number_within low high (literal_in 64 w)
field_within low high p = tt

fields_are : (w t s : Option ℕ) → IsWithin 0 7 w → IsWithin 0 63 t → IsWithin 1 256 s → IfOk (entry_by w t s) IsOfWorker
fields_are (Some w) (Some t) (Some s) worker thread steps = record { worker = omega (arith, worker.1); some = steps.0; few = steps.1 }
fields_are w t s worker thread steps = tt

entry_is : (ps : List Piece) → IfOk (entry_in ps) IsOfWorker
unfolding entry_in
entry_is (a ∷ b ∷ c ∷ []) = fields_are (field_in 0 7 a) (field_in 0 63 b) (field_in 1 256 c) (field_within 0 7 a) (field_within 0 63 b) (field_within 1 256 c)
entry_is ps = tt

-- ---- lines of a schedule

abbrev IsLogLine : LogLine → Type 0
IsLogLine (log.One e) = IsOfWorker e
IsLogLine l = Unit {0}

said_is : {A : Type 0} (f : A → LogLine) (read : Result A LineKind) → IfOk read (λ x. IsLogLine (f x)) → IfOk (log_said f read) IsLogLine
said_is f (Ok x) is = is
said_is f (Err k) is = tt

ends : (r : Result (Unit {0}) LineKind) → IfOk r (λ x. Unit {0})
ends (Ok x) = tt
ends (Err k) = tt

line_by_is : (h : Head) (ps : List Piece) → IfOk (log_line_by h ps) IsLogLine
line_by_is head.Blank ps = tt
line_by_is (head.Directive directive.EndSchedule) ps = said_is (λ (nothing : Unit {0}). log.End) (ended (after_first (after_first ps))) (ends (ended (after_first (after_first ps))))
line_by_is h ps = said_is log.One (entry_in ps) (entry_is ps)

line_is : (ps : List Piece) → IfOk (log_line ps) IsLogLine
unfolding log_line
line_is ps = line_by_is (head_of ps) ps

-- ---- schedules

abbrev IsLog : List Entry → Type 0
IsLog es = All IsOfWorker es

entry_more : (e : Entry) (more : Result (List Entry) Stop) → IsOfWorker e → IfOk more IsLog → IfOk (and_entry e more) IsLog
entry_more e (Ok es) is are = All-cons IsOfWorker e es is are
entry_more e (Err f) is are = tt

with_is : (l : LogLine) (more last : Result (List Entry) Stop) → IsLogLine l → IfOk more IsLog → IfOk last IsLog → IfOk (log_with l more last) IsLog
with_is log.Nothing more last is others end = others
with_is (log.One e) more last is others end = entry_more e more is others
with_is log.End more last is others end = end

first_is : (end : Option Stop) (ls : List TextLine) → IfOk (first_behind end ls) IsLog
first_is None [] = All-nil IsOfWorker
first_is (Some e) [] = tt
first_is end (l ∷ ls) = tt

log_is : (stop : Option Stop) (past : ℕ) (ls : List TextLine) → IfOk (log_from stop past ls) IsLog
unfolding log_from
log_is stop past [] = tt
log_is stop past (l ∷ ls) =
    then_holds IsLogLine IsLog (on_line l.number (log_line l.pieces)) _ (on_line_holds IsLogLine l.number (log_line l.pieces) (line_is l.pieces)) (λ s is.
    with_is s (log_from stop past ls) (nothing_behind stop past ls) is (log_is stop past ls) (first_is (end_with stop past (open_behind 0 ls)) (kept 0 ls)))

schedule_is : (stop : Option Stop) (past : ℕ) (first : TextLine) (ls : List TextLine) → IfOk (schedule_from stop past first ls) IsLog
schedule_is stop past first ls = then_holds (λ _. Unit {0}) IsLog (on_line first.number (ended (after_first first.pieces))) _ (always (on_line first.number (ended (after_first first.pieces)))) (λ _ _. log_is stop past ls)

-- ---- the whole text

abbrev HasLog : Drafts → Type 0
HasLog d = IsLog d.1

without_is : (stop : Option Stop) (ls : List TextLine) → IfOk (without_schedule stop ls) HasLog
without_is stop ls =
    let read = drafts_of (text_end stop ls) (number_behind ls) ls in
    then_holds (λ _. Unit {0}) HasLog read _ (always read) (λ cs _. All-nil IsOfWorker)

scheduled_is : (stop : Option Stop) (past : ℕ) (c : Cut) → IfOk (with_schedule stop past c) HasLog
scheduled_is stop past c =
    let read = drafts_of None c.first.number c.before in
    let log = schedule_from stop past c.first c.behind in
    then_holds (λ _. Unit {0}) HasLog read _ (always read) (λ cs _. then_holds IsLog HasLog log _ (schedule_is stop past c.first c.behind) (λ es are. are))

cut_is : (stop : Option Stop) (ls : List TextLine) (o : Option Cut) → IfOk (by_cut stop ls o) HasLog
cut_is stop ls None = without_is stop ls
cut_is stop ls (Some c) = scheduled_is stop (number_behind ls) c

drafts_are : (schedule : Bool) (stop : Option Stop) (ls : List TextLine) → IfOk (drafts_in schedule stop ls) HasLog
unfolding drafts_in
drafts_are false stop ls = without_is stop ls
drafts_are true stop ls = cut_is stop ls (cut_at_schedule 0 ls)

read_is : (schedule : Bool) (r : Reading) → IfOk (program_of schedule r) (λ x. IsLog x.log)
unfolding program_of
read_is schedule r =
    let P : Read → Type 0 = λ x. IsLog x.log in
    then_holds HasLog P (drafts_in schedule r.stop (map line_of r.lines)) assembled_drafts (drafts_are schedule r.stop (map line_of r.lines)) (λ d are.
    then_holds (λ _. Unit {0}) P (classes_of d.0) _ (always (classes_of d.0)) (λ cs _. are))

with_log_is : (log : List Entry) (r : Result Image Refusal) → IsLog log → IfOk (with_log log r) (λ s. IsLog s.log)
with_log_is log (Ok image) is = is
with_log_is log (Err why) is = tt

by_is : (r : Result Read Stop) → IfOk r (λ x. IsLog x.log) → IfOk (by_scheduled r) (λ s. IsLog s.log)
by_is (Ok read) is = with_log_is read.log (image_of read.classes) is
by_is (Err bad) is = tt

scheduled_log : (bytes : List ℕ) → IfOk (scheduled_in bytes) (λ s. IsLog s.log)
unfolding scheduled_in
scheduled_log bytes = by_is (program_of true (reading_of bytes)) (read_is true (reading_of bytes))

-- each entry of a text's schedule may be a log's
pub schedule_of_text : (bytes : List ℕ) (s : Scheduled) → scheduled_in bytes ≡ Ok s → All IsOfWorker s.log
schedule_of_text bytes s is = subst (λ (r : Result Scheduled Refusal). IfOk r (λ t. IsLog t.log)) is (scheduled_log bytes)
