-- The entries of a schedule, line by line.
use Rattle.std.proofs.Common.{◌≡◌, ℕ, ◌-◌, ◌<◌, ◌≤◌, List, [], ◌∷◌, ◌++◌, length, take, drop, slice_index_or, Option, Result, Ok, Err, refl, sym, ap, ◌∙◌, append_assoc, append-nil, arith}
use Rattle.std.specs.Prelude.{unwrap_or}
use Rattle.std.proofs.lemmas.List.{take_all}
use Rattle.dv_defs.specs.declared.faults.LineError.{LineError}
use Rattle.dv_defs.specs.declared.faults.LineError.TheVariants as error
use Rattle.dv_defs.specs.declared.run.Entry.{Entry}
use Rattle.dv_lex.specs.declared.line.Line.{Line}
use Rattle.dv_lex.specs.declared.line.Stop.{Stop}
use Rattle.dv_coderead.specs.Giving.{◌>>>◌, on_line, Stops}
use Rattle.dv_coderead.specs.Kept.{TextLine, text_line, text_lines}
use Rattle.dv_classread.specs.declared.schedule.LogLine.{LogLine}
use Rattle.dv_classread.specs.Schedules.{and_entry, log_from, log_line, log_with, nothing_behind}
use Rattle.dv_classread.specs.Texts.{missing_at}

-- ---- entries in front

-- these entries, and those that are read behind them
pub and_entries : List Entry → Result (List Entry) Stop → Result (List Entry) Stop
and_entries es (Ok fs) = Ok (es ++ fs)
and_entries es (Err f) = Err f

-- none in front
pub and_none : (r : Result (List Entry) Stop) → and_entries [] r ≡ r
unfolding and_entries
and_none (Ok fs) = refl
and_none (Err f) = refl

-- one more in front
pub and_one : (es : List Entry) (e : Entry) (r : Result (List Entry) Stop) → and_entries es (and_entry e r) ≡ and_entries (es ++ e ∷ []) r
unfolding and_entries
and_one es e (Ok fs) = ap Ok (sym (append_assoc es (e ∷ []) fs))
and_one es e (Err f) = refl

-- none behind
pub and_last : (es : List Entry) → and_entries es (Ok []) ≡ Ok es
unfolding and_entries
and_last es = ap Ok (append-nil es)

-- a fault counts whatever stands in front
pub and_fault : (es : List Entry) (f : Stop) → and_entries es (Err f) ≡ Err f
unfolding and_entries
and_fault es f = refl

pub and_stops : (e : LineError) (es : List Entry) (r : Result (List Entry) Stop) → Stops e r → Stops e (and_entries es r)
and_stops error.Memory es r stops = tt
and_stops (error.At line kind) es r stops = ap (and_entries es) stops ∙ and_fault es (record { line = line; kind = kind })

-- ---- the first line

-- the lines behind the first, as code takes them
abbrev pub behind_first : List Line → List Line
behind_first ls = take (length ls - 1) (drop 1 ls)

-- all lines but the first stand behind it
behind_is : (l : Line) (ls : List Line) → behind_first (l ∷ ls) ≡ ls
behind_is l ls = take_all _ ls (omega arith)

in_front : (text : List ℕ) (ls : List Line) (l : Line) → 1 ≤ length ls → l ≡ slice_index_or ls 0 l → text_lines text ls ≡ text_line text l ∷ text_lines text (behind_first ls)
in_front text [] l some is = absurd (omega arith)
in_front text (k ∷ ls) l some is = ap (λ x. text_line text x ∷ text_lines text ls) (sym is) ∙ ap (λ xs. text_line text l ∷ text_lines text xs) (sym (behind_is k ls))

module _ (stop : Option Stop) (past : ℕ) where
  -- what is read of a line, and of those behind it
  abbrev log_by : Result LogLine Stop → List TextLine → Result (List Entry) Stop
  log_by r ls = r >>> λ s. log_with s (log_from stop past ls) (nothing_behind stop past ls)

  log_more : (l : TextLine) (ls : List TextLine) → log_from stop past (l ∷ ls) ≡ log_by (on_line l.number (log_line l.pieces)) ls
  unfolding log_from
  log_more l ls = refl

  log_none : log_from stop past [] ≡ Err (unwrap_or stop (missing_at past))
  unfolding log_from
  log_none = refl

  -- no line is left
  pub unfinished : (text : List ℕ) (ls : List Line) → length ls < 1 → log_from stop past (text_lines text ls) ≡ Err (unwrap_or stop (missing_at past))
  unfinished text [] none = log_none
  unfinished text (l ∷ ls) none = absurd (omega arith)

  module _ (text : List ℕ) (ls : List Line) (l : Line) (some : 1 ≤ length ls) (is : l ≡ slice_index_or ls 0 l) where
    abbrev read : Result LogLine Stop
    read = on_line l.number (log_line (text_line text l).pieces)

    abbrev rest : List TextLine
    rest = text_lines text (behind_first ls)

    log_first : log_from stop past (text_lines text ls) ≡ log_by read rest
    log_first = ap (log_from stop past) (in_front text ls l some is) ∙ log_more (text_line text l) rest

    -- what the first line says
    pub log_says : (s : LogLine) → read ≡ Ok s → log_from stop past (text_lines text ls) ≡ log_with s (log_from stop past rest) (nothing_behind stop past rest)
    log_says s e = log_first ∙ ap (λ r. log_by r rest) e

    -- a bad first line
    pub log_refused : (e : LineError) → Stops e read → Stops e (log_from stop past (text_lines text ls))
    log_refused error.Memory stops = tt
    log_refused (error.At line kind) stops = log_first ∙ ap (λ r. log_by r rest) stops
