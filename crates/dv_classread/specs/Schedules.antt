-- The schedule that stands behind the classes of a text.
use Rattle.std.specs.Prelude.{◌≡◌, ℕ, zero, suc, ◌+◌, ◌<◌, ◌&&◌, ℤ, pos, Bool, true, false, List, [], ◌∷◌, take, drop, length, Option, Some, None, unwrap_or, Result, Ok, Err, nat_le, if◌then◌else◌}
use Rattle.dv_defs.specs.declared.faults.LineKind.{LineKind}
use Rattle.dv_defs.specs.declared.faults.LineKind.TheVariants as kind
use Rattle.dv_defs.specs.declared.run.Entry.{Entry}
use Rattle.dv_lex.specs.declared.line.Line.{Line}
use Rattle.dv_lex.specs.declared.line.Stop.{Stop}
use Rattle.dv_coderead.specs.declared.head.Directive.TheVariants as directive
use Rattle.dv_coderead.specs.declared.head.Head.{Head}
use Rattle.dv_coderead.specs.declared.head.Head.TheVariants as head
use Rattle.dv_coderead.specs.Giving.{◌>>>◌, on_line}
use Rattle.dv_coderead.specs.Pieces.{Piece, AWord}
use Rattle.dv_coderead.specs.Words.{literal_in}
use Rattle.dv_coderead.specs.Operands.{after_first, ended}
use Rattle.dv_coderead.specs.Heads.{head_of}
use Rattle.dv_coderead.specs.Kept.{TextLine, counts, depth_behind, kept, line_at, open_behind, text_lines}
use Rattle.dv_classread.specs.declared.schedule.LogLine.{LogLine}
use Rattle.dv_classread.specs.declared.schedule.LogLine.TheVariants as log
use Rattle.dv_classread.specs.ClassLines.{refusal_of}
use Rattle.dv_classread.specs.Texts.{missing_at}

-- ---- entries

abbrev pub in_range : ℕ → ℕ → Result ℤ LineKind → Option ℕ
in_range low high (Ok (pos n)) = if nat_le low n && nat_le n high then Some n else None
in_range low high r = None

-- a number in this range
abbrev pub field_in : ℕ → ℕ → Piece → Option ℕ
field_in low high (AWord w) = in_range low high (literal_in 64 w)
field_in low high p = None

abbrev pub entry_by : Option ℕ → Option ℕ → Option ℕ → Result Entry LineKind
entry_by (Some worker) (Some thread) (Some steps) = Ok (record { worker = worker; thread = thread; steps = steps })
entry_by worker thread steps = Err kind.BadLogLine

-- eight workers, 64 threads, and slices of 1 to 256 steps
unfoldable pub entry_in : List Piece → Result Entry LineKind
entry_in (a ∷ b ∷ c ∷ []) = entry_by (field_in 0 7 a) (field_in 0 63 b) (field_in 1 256 c)
entry_in ps = Err kind.BadLogLine

-- ---- lines of a schedule

abbrev pub log_said : {A : Type 0} → (A → LogLine) → Result A LineKind → Result LogLine LineKind
log_said f (Ok x) = Ok (f x)
log_said f (Err k) = Err k

abbrev pub log_line_by : Head → List Piece → Result LogLine LineKind
log_line_by head.Blank ps = Ok log.Nothing
log_line_by (head.Directive directive.EndSchedule) ps = log_said (λ nothing. log.End) (ended (after_first (after_first ps)))
log_line_by h ps = log_said log.One (entry_in ps)

-- nothing, an entry, or the end of the schedule
unfoldable pub log_line : List Piece → Result LogLine LineKind
log_line ps = log_line_by (head_of ps) ps

-- ---- behind the schedule

-- a schedule stands once, and nothing behind it
abbrev pub refusal_behind : Head → LineKind
refusal_behind (head.Directive directive.Schedule) = kind.Repeated
refusal_behind h = refusal_of h

abbrev pub ended_with : Option Stop → Result (List Entry) Stop
ended_with None = Ok []
ended_with (Some e) = Err e

abbrev pub first_behind : Option Stop → List TextLine → Result (List Entry) Stop
first_behind end [] = ended_with end
first_behind end (l ∷ ls) = Err (record { line = l.number; kind = refusal_behind (head_of l.pieces) })

-- how the good lines of a text end: well, or with a bad line, or with an annotation that is left open
abbrev pub unclosed : ℕ → ℕ → Option Stop
unclosed past zero = None
unclosed past (suc n) = Some (missing_at past)

abbrev pub end_with : Option Stop → ℕ → ℕ → Option Stop
end_with (Some e) past annotations = Some e
end_with None past annotations = unclosed past annotations

-- the last lines, which may only be passed over
abbrev pub nothing_behind : Option Stop → ℕ → List TextLine → Result (List Entry) Stop
nothing_behind stop past ls = first_behind (end_with stop past (open_behind 0 ls)) (kept 0 ls)

-- ---- schedules

abbrev pub and_entry : Entry → Result (List Entry) Stop → Result (List Entry) Stop
and_entry e (Ok es) = Ok (e ∷ es)
and_entry e (Err f) = Err f

abbrev pub log_with : LogLine → Result (List Entry) Stop → Result (List Entry) Stop → Result (List Entry) Stop
log_with log.Nothing more last = more
log_with (log.One e) more last = and_entry e more
log_with log.End more last = last

-- the entries of these lines, up to the end of the schedule
unfoldable pub log_from : Option Stop → ℕ → List TextLine → Result (List Entry) Stop
log_from stop past [] = Err (unwrap_or stop (missing_at past))
log_from stop past (l ∷ ls) = on_line l.number (log_line l.pieces) >>> λ s. log_with s (log_from stop past ls) (nothing_behind stop past ls)

-- the schedule that begins with this line
abbrev pub schedule_from : Option Stop → ℕ → TextLine → List TextLine → Result (List Entry) Stop
schedule_from stop past first ls = on_line first.number (ended (after_first first.pieces)) >>> λ nothing. log_from stop past ls

-- ---- where it begins

-- the lines before it, its first line, and those behind that
pub record Cut : Type 0 where
  pub before : List TextLine
  pub first : TextLine
  pub behind : List TextLine

abbrev pub with_line : TextLine → Option Cut → Option Cut
with_line l None = None
with_line l (Some c) = Some (record { before = l ∷ c.before; first = c.first; behind = c.behind })

abbrev pub begins_schedule : Head → Bool
begins_schedule (head.Directive directive.Schedule) = true
begins_schedule h = false

-- a schedule begins at the first such line that counts
unfoldable pub cut_at_schedule : ℕ → List TextLine → Option Cut
cut_at_schedule n [] = None
cut_at_schedule n (l ∷ ls) =
    let h = head_of l.pieces in
    if counts n h && begins_schedule h then Some (record { before = []; first = l; behind = ls })
    else with_line l (cut_at_schedule (depth_behind n h) ls)

-- ---- what calls answer

-- the lines of a text, cut at a place
abbrev pub cut_at : List ℕ → List Line → ℕ → Cut
cut_at text ls at = record { before = text_lines text (take at ls); first = line_at text ls at; behind = text_lines text (drop (at + 1) ls) }

-- the schedule begins at this place, where no annotation is open
pub record IsCutAt (text : List ℕ) (ls : List Line) (at : ℕ) : Type 0 where
  pub inside : at < length ls
  pub closed : open_behind 0 (text_lines text (take at ls)) ≡ 0
  pub cut : cut_at_schedule 0 (text_lines text ls) ≡ Some (cut_at text ls at)

abbrev pub CutsAt : List ℕ → List Line → Option ℕ → Type 0
CutsAt text ls None = cut_at_schedule 0 (text_lines text ls) ≡ None
CutsAt text ls (Some at) = IsCutAt text ls at
