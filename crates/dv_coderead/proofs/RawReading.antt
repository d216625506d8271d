-- A raw body from a line on, where the lines before it are read.
use Rattle.std.proofs.Common.{◌≡◌, ℕ, ◌+◌, ◌<◌, ◌≤◌, ◌&&◌, List, [], ◌∷◌, ◌++◌, length, slice_index_or, nat_eq, Result, Ok, Err, refl, sym, ap, ◌∙◌, arith}
use Rattle.std.proofs.lemmas.Bool.{and_right, cond-false, ne_eqb}
use Rattle.std.proofs.lemmas.List.{get_or_default}
use Rattle.dv_defs.specs.declared.faults.LineKind.TheVariants.{Missing}
use Rattle.dv_defs.specs.declared.faults.LineError.{LineError}
use Rattle.dv_defs.specs.declared.faults.LineError.TheVariants as error
use Rattle.dv_defs.specs.Body.{BodyValue}
use Rattle.dv_draft.specs.Pools.{no_pools}
use Rattle.dv_lex.specs.declared.line.Line.{Line}
use Rattle.dv_lex.specs.declared.line.Stop.{Stop}
use Rattle.dv_coderead.specs.declared.raw_line.RawPlace.{RawPlace}
use Rattle.dv_coderead.specs.declared.raw_line.RawPlace.TheVariants as place
use Rattle.dv_coderead.specs.declared.raw_line.RawLine.{RawLine}
use Rattle.dv_coderead.specs.declared.raw_body.RawDrafting.{RawDrafting}
use Rattle.dv_coderead.specs.declared.head.Head.{Head}
use Rattle.dv_coderead.specs.Giving.{◌>>>◌, on_line, Stops}
use Rattle.dv_coderead.specs.Kept.{TextLine, kept_from, line_at, no_line, open_from, text_line, text_lines, IsNext}
use Rattle.dv_coderead.specs.Bodies.{number_behind}
use Rattle.dv_coderead.specs.RawLines.{raw_line, AreFew}
use Rattle.dv_coderead.specs.RawBodies.{and_raw, is_behind, place_behind, place_next, raw_body_by, raw_body_from, raw_body_of, raw_finished, raw_handlers, raw_refs, raw_registers, raw_told_by, raw_units, with_refs}
use Rattle.dv_coderead.specs.RawDrafting.{raw_with, HasUnits, IsRawDrafting}

-- few units stand before a line
pub few_before : (p : RawPlace) (us : List ℕ) → HasUnits p us → length us ≤ 16384 → AreFew p
few_before place.Start us has short = tt
few_before place.Pools us has short = tt
few_before (place.Units before) us has short = omega arith
few_before place.Behind us has short = tt

-- ---- lines behind what is read

-- the body that these lines finish
abbrev pub raw_from : ℕ → ℕ → RawDrafting → List TextLine → Result BodyValue Stop
raw_from past annotations d ls = raw_told_by d.place ls >>> λ ts. raw_finished past annotations (place_behind d.place ts) (raw_with d ts)

module _ (past annotations : ℕ) where
  -- before the first line
  nothing_read : (d : RawDrafting) (ls : List TextLine) → d.place ≡ place.Start → d.registers ≡ 0 → d.pools ≡ no_pools → d.units.items ≡ [] → d.handlers.items ≡ []
      → raw_from past annotations d ls ≡ raw_body_from past annotations ls
  nothing_read d ls at count pools units handlers = λ i.
      raw_told_by (at i) ls >>> λ ts. raw_finished past annotations (place_behind (at i) ts)
      (raw_body_by (raw_registers (count i) ts) (with_refs (pools i) (raw_refs ts)) (units i ++ raw_units ts) (handlers i ++ raw_handlers ts))

  -- what is made of a line and later ones, by the later ones
  and_then : (s : RawLine) (r : Result (List RawLine) Stop) (f : List RawLine → Result BodyValue Stop) → (and_raw s r >>> f) ≡ (r >>> λ ts. f (s ∷ ts))
  and_then s (Ok ts) f = refl
  and_then s (Err e) f = refl

  module _ (d : RawDrafting) (l : TextLine) (ls : List TextLine) where
    -- one line more is read
    line_read : (new : RawDrafting) (s : RawLine) → on_line l.number (raw_line d.place l.pieces) ≡ Ok s → new.place ≡ place_next d.place s
        → ((ts : List RawLine) → raw_with new ts ≡ raw_with d (s ∷ ts)) → raw_from past annotations d (l ∷ ls) ≡ raw_from past annotations new ls
    unfolding raw_told_by place_behind
    line_read new s e next more =
        let f : List RawLine → Result BodyValue Stop = λ ts. raw_finished past annotations (place_behind d.place ts) (raw_with d ts) in
        let rest : RawLine → Result (List RawLine) Stop = λ t. and_raw t (raw_told_by (place_next d.place t) ls) in
        ap (λ r. (r >>> rest) >>> f) e ∙ and_then s (raw_told_by (place_next d.place s) ls) f
        ∙ sym (λ i. raw_told_by (next i) ls >>> λ ts. raw_finished past annotations (place_behind (next i) ts) (more ts i))

    -- the line is bad
    line_refused : (e : Stop) → on_line l.number (raw_line d.place l.pieces) ≡ Err e → raw_from past annotations d (l ∷ ls) ≡ Err e
    unfolding raw_told_by
    line_refused e is =
        let f : List RawLine → Result BodyValue Stop = λ ts. raw_finished past annotations (place_behind d.place ts) (raw_with d ts) in
        let rest : RawLine → Result (List RawLine) Stop = λ t. and_raw t (raw_told_by (place_next d.place t) ls) in
        ap (λ r. (r >>> rest) >>> f) is

  -- no line is left
  all_read : (d : RawDrafting) → raw_from past annotations d [] ≡ raw_finished past annotations d.place (raw_with d [])
  unfolding raw_told_by place_behind
  all_read d = refl

  -- an annotation is left open
  left_open : (p : RawPlace) (b : BodyValue) → 0 < annotations → raw_finished past annotations p b ≡ Err (record { line = past; kind = Missing })
  left_open p b some = cond-false (is_behind p && nat_eq annotations 0) _ _ (and_right (is_behind p) _ (ne_eqb annotations 0 (λ e. omega arith)))

-- ---- lines as code has them

module _ (text : List ℕ) (lines : List Line) where
  -- the number of the line behind the last
  abbrev pub past : ℕ
  past = number_behind (text_lines text lines)

  -- the lines before a place are read
  pub record IsRead (at : ℕ) (d : RawDrafting) : Type 0 where
    pub place : at ≤ length lines
    pub drafting : IsRawDrafting d
    pub body : raw_body_of (text_lines text lines) ≡ raw_from past (open_from text lines at) d (kept_from text lines at)

  -- before the first line
  pub at_start : (d : RawDrafting) → d.place ≡ place.Start → d.registers ≡ 0 → d.pools ≡ no_pools → d.units.items ≡ [] → d.handlers.items ≡ [] → IsRawDrafting d → IsRead 0 d
  unfolding raw_body_of
  at_start d at count pools units handlers is = record {
    place = omega arith;
    drafting = is;
    body = sym (nothing_read past (open_from text lines 0) d (kept_from text lines 0) at count pools units handlers);
  }

  -- what a line says, as code reads it
  abbrev pub said_of : RawPlace → Line → Result RawLine Stop
  said_of p l = on_line l.number (raw_line p (text_line text l).pieces)

  module _ (at next : ℕ) (d : RawDrafting) (h : Head) (is : IsRead at d) (comes : IsNext text lines at next h) where
    -- the next line that counts, as code has it
    said_here : (l : Line) → l ≡ slice_index_or lines next l → said_of d.place l ≡ on_line (line_at text lines next).number (raw_line d.place (line_at text lines next).pieces)
    said_here l e = ap (said_of d.place) (e ∙ get_or_default lines next l no_line comes.inside)

    -- it stands before the rest
    body_here : raw_body_of (text_lines text lines) ≡ raw_from past (open_from text lines (next + 1)) d (line_at text lines next ∷ kept_from text lines (next + 1))
    body_here = is.body ∙ (λ i. raw_from past (comes.depth i) d (comes.kept i))

    -- it is read
    pub one_more : (l : Line) (s : RawLine) (new : RawDrafting) → l ≡ slice_index_or lines next l → said_of d.place l ≡ Ok s → IsRawDrafting new → new.place ≡ place_next d.place s
        → ((ts : List RawLine) → raw_with new ts ≡ raw_with d (s ∷ ts)) → IsRead (next + 1) new
    one_more l s new e ok drafting place more = record {
      place = omega (arith, comes.inside);
      drafting = drafting;
      body = body_here ∙ line_read past (open_from text lines (next + 1)) d (line_at text lines next) (kept_from text lines (next + 1)) new s (sym (said_here l e) ∙ ok) place more;
    }

    -- it is bad
    pub line_stops : (l : Line) (e : LineError) → l ≡ slice_index_or lines next l → Stops e (said_of d.place l) → Stops e (raw_body_of (text_lines text lines))
    line_stops l error.Memory e is_bad = tt
    line_stops l (error.At n k) e is_bad =
        body_here ∙ line_refused past (open_from text lines (next + 1)) d (line_at text lines next) (kept_from text lines (next + 1)) (record { line = n; kind = k }) (sym (said_here l e) ∙ is_bad)

  module _ (at : ℕ) (d : RawDrafting) (is : IsRead at d) (none : kept_from text lines at ≡ []) where
    -- no line that counts is left
    body_left : raw_body_of (text_lines text lines) ≡ raw_finished past (open_from text lines at) d.place (raw_with d [])
    body_left = is.body ∙ ap (raw_from past (open_from text lines at) d) none ∙ all_read past (open_from text lines at) d

    -- nor is an annotation left open
    pub at_end : open_from text lines at ≡ 0 → raw_body_of (text_lines text lines) ≡ raw_finished past 0 d.place (raw_with d [])
    at_end closed = body_left ∙ ap (λ n. raw_finished past n d.place (raw_with d [])) closed

    -- one is
    pub unfinished : 0 < open_from text lines at → raw_body_of (text_lines text lines) ≡ Err (record { line = past; kind = Missing })
    unfinished some = body_left ∙ left_open past (open_from text lines at) d.place (raw_with d []) some
