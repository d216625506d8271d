-- The classes and the schedule of a text.
use Rattle.std.specs.Prelude.{◌≡◌, ℕ, ◌+◌, ◌<◌, ◌≤◌, Bool, true, false, List, [], ◌∷◌, length, map, Option, Some, None, unwrap_or, Result, Ok, MatchResult}
use Rattle.dv_defs.specs.declared.faults.LineError.{LineError}
use Rattle.dv_defs.specs.declared.run.Entry.{Entry}
use Rattle.dv_lex.specs.declared.line.Line.{Line}
use Rattle.dv_lex.specs.declared.line.Stop.{Stop}
use Rattle.dv_lex.specs.Lines.{Reading}
use Rattle.dv_coderead.specs.Giving.{◌>>>◌, Stops}
use Rattle.dv_coderead.specs.Kept.{TextLine, line_of, kept, kept_from, line_at, open_behind, open_from, text_lines}
use Rattle.dv_coderead.specs.Bodies.{number_behind}
use Rattle.dv_classread.specs.declared.class_line.Standing.TheVariants.{Outside}
use Rattle.dv_classread.specs.declared.program.ClassDraft.{ClassDraft}
use Rattle.dv_classread.specs.declared.program.ClassesSoFar.{ClassesSoFar}
use Rattle.dv_classread.specs.declared.text.Read.{Read}
use Rattle.dv_classread.specs.Texts.{InClass, missing_at, told_from}
use Rattle.dv_classread.specs.Classes.{classes_from, classes_in}
use Rattle.dv_classread.specs.Assembling.{classes_of}
use Rattle.dv_classread.specs.Schedules.{Cut, IsCutAt, cut_at_schedule, end_with, schedule_from}

-- the classes of lines that end so, before their bodies are assembled
abbrev pub drafts_of : Option Stop → ℕ → List TextLine → Result (List ClassDraft) Stop
drafts_of end past ls = told_from end past (InClass Outside) (kept 0 ls) >>> λ ts. Ok (classes_in ts)

-- the end of a text's good lines
abbrev pub text_end : Option Stop → List TextLine → Option Stop
text_end stop ls = end_with stop (number_behind ls) (open_behind 0 ls)

-- classes before their bodies are assembled, and the schedule
abbrev pub Drafts : Type 0
Drafts = List ClassDraft × List Entry

abbrev pub without_schedule : Option Stop → List TextLine → Result Drafts Stop
without_schedule stop ls = drafts_of (text_end stop ls) (number_behind ls) ls >>> λ cs. Ok (cs, [])

-- a class or a method that is unfinished where the schedule begins lacks a part there
abbrev pub with_schedule : Option Stop → ℕ → Cut → Result Drafts Stop
with_schedule stop past c =
    drafts_of None c.first.number c.before >>> λ cs.
    schedule_from stop past c.first c.behind >>> λ log.
    Ok (cs, log)

abbrev pub by_cut : Option Stop → List TextLine → Option Cut → Result Drafts Stop
by_cut stop ls None = without_schedule stop ls
by_cut stop ls (Some c) = with_schedule stop (number_behind ls) c

-- with its schedule, or without one
unfoldable pub drafts_in : Bool → Option Stop → List TextLine → Result Drafts Stop
drafts_in false stop ls = without_schedule stop ls
drafts_in true stop ls = by_cut stop ls (cut_at_schedule 0 ls)

-- bodies are assembled when all lines are read
abbrev pub assembled_drafts : Drafts → Result Read Stop
assembled_drafts d = classes_of d.0 >>> λ classes. Ok (record { classes = classes; log = d.1 })

-- What a text is read as: the first bad line is told, else the first refusal of a body that isn't assembled.
unfoldable pub program_of : Bool → Reading → Result Read Stop
program_of schedule r = drafts_in schedule r.stop (map line_of r.lines) >>> assembled_drafts

-- ---- what calls answer

-- What is told from a place on goes on from another place, with what was added; or the first bad line. A method that is
-- unfinished at the end is told by this fault.
abbrev pub GoesOn : List ℕ → List Line → ℕ → Stop → ClassesSoFar → ClassesSoFar → Result ℕ LineError → Type 0
GoesOn text ls place fault old new result =
    (end : Option Stop) (past : ℕ) → unwrap_or end (missing_at past) ≡ fault →
    MatchResult result
    (λ next. (place < next) × (next ≤ length ls) × (open_from text ls (place + 1) ≡ open_from text ls next)
    × (classes_from end past old (line_at text ls place ∷ kept_from text ls (place + 1)) ≡ classes_from end past new (kept_from text ls next)))
    (λ e. Stops e (classes_from end past old (line_at text ls place ∷ kept_from text ls (place + 1))))

-- where the schedule begins, if there is one and it is looked for
abbrev pub CutsIf : Bool → List ℕ → List Line → Option ℕ → Type 0
CutsIf schedule text ls None = (stop : Option Stop) → drafts_in schedule stop (text_lines text ls) ≡ without_schedule stop (text_lines text ls)
CutsIf schedule text ls (Some at) = (schedule ≡ true) × IsCutAt text ls at
