-- The draft of lines, line by line.
use Rattle.std.proofs.Common.{◌≡◌, ℕ, ◌+◌, ◌<◌, Bool, false, List, [], ◌∷◌, Result, Ok, Err, refl, sym, ap, ◌∙◌, arith}
use Rattle.std.specs.Prelude.{◌&&◌, nat_eq, is_some, not, if◌then◌else◌}
use Rattle.std.proofs.lemmas.Bool.{and_right, ne_eqb}
use Rattle.dv_defs.specs.declared.faults.LineKind.TheVariants.{Missing}
use Rattle.dv_defs.specs.declared.faults.LineError.{LineError}
use Rattle.dv_defs.specs.declared.faults.LineError.TheVariants as error
use Rattle.dv_draft.specs.declared.draft.Item.{Item}
use Rattle.dv_draft.specs.declared.draft.Catch.{Catch}
use Rattle.dv_draft.specs.Draft.{DraftValue}
use Rattle.dv_lex.specs.declared.line.Line.{Line}
use Rattle.dv_lex.specs.declared.line.Stop.{Stop}
use Rattle.dv_coderead.specs.declared.body_line.Context.{Context}
use Rattle.dv_coderead.specs.declared.body_line.BodyLine.{BodyLine}
use Rattle.dv_coderead.specs.declared.drafting.Drafting.{Drafting}
use Rattle.dv_coderead.specs.declared.head.Head.{Head}
use Rattle.dv_coderead.specs.Giving.{◌>>>◌, on_line, Stops}
use Rattle.dv_coderead.specs.Kept.{TextLine, IsNext, kept, kept_from, line_at, open_behind, open_from, text_lines}
use Rattle.dv_coderead.specs.BodyLines.{body_line}
use Rattle.dv_coderead.specs.Bodies.{Told, and_told, body_of, finished, is_whole, nothing_before, number_behind, registers_of, told_behind, told_by, told_next}
use Rattle.dv_coderead.specs.Drafting.{Adds, catches_with, draft_with, finished_with, items_with}

-- ---- what goes by what was read before

-- what goes by a reading is the same for the same answers
pub then_same : {A B : Type 0} (r : Result A Stop) (f g : A → Result B Stop) → ((x : A) → f x ≡ g x) → (r >>> f) ≡ (r >>> g)
then_same (Ok x) f g same = same x
then_same (Err e) f g same = refl

-- what goes by a line and those behind it goes by those behind it
told_then : {B : Type 0} (n : ℕ) (s : BodyLine) (r : Result (List Told) Stop) (f : List Told → Result B Stop) → (and_told n s r >>> f) ≡ (r >>> λ ts. f (record { number = n; says = s } ∷ ts))
told_then n s (Ok ts) f = refl
told_then n s (Err e) f = refl

-- ---- one line

-- what a line says, or its fault
abbrev pub line_read : ℕ → Context → TextLine → Result BodyLine Stop
line_read arguments before l = on_line l.number (body_line arguments before l.number l.pieces)

module _ (arguments : ℕ) (before : Context) (l : TextLine) (ls : List TextLine) where
  -- a line that is read
  told_first : (s : BodyLine) → line_read arguments before l ≡ Ok s → told_by arguments before (l ∷ ls) ≡ and_told l.number s (told_by arguments (told_next before s) ls)
  unfolding told_by
  told_first s is = ap (λ r. r >>> λ s. and_told l.number s (told_by arguments (told_next before s) ls)) is

  -- a line that is refused
  refused_first : (e : Stop) → line_read arguments before l ≡ Err e → told_by arguments before (l ∷ ls) ≡ Err e
  unfolding told_by
  refused_first e is = ap (λ r. r >>> λ s. and_told l.number s (told_by arguments (told_next before s) ls)) is

-- ---- what a draft becomes

module _ (past annotations : ℕ) where
  abbrev finished_as : Context → List Item → List Catch → Result DraftValue Stop
  finished_as c items catches =
      if is_whole c annotations then Ok (record { registers = registers_of c.frame; items = items; catches = catches }) else Err (record { line = past; kind = Missing })

  -- what a line and those behind it make of a draft, those behind it make of the draft with the line
  finished_next : (d e : Drafting) (n : ℕ) (s : BodyLine) → Adds d n s e → (ts : List Told) → finished_with past annotations d (record { number = n; says = s } ∷ ts) ≡ finished_with past annotations e ts
  unfolding told_behind
  finished_next d e n s adds ts =
      let t : Told = record { number = n; says = s } in
      ap (λ c. finished_as (told_behind c ts) (items_with d (t ∷ ts)) (catches_with d (t ∷ ts))) (sym adds.context)
      ∙ ap (λ items. finished_as (told_behind e.context ts) items (catches_with d (t ∷ ts))) (sym (adds.items ts))
      ∙ ap (finished_as (told_behind e.context ts) (items_with e ts)) (sym (adds.catches ts))

  -- what lines make of a draft without lines is what they give
  finished_new : (d : Drafting) → d.context ≡ nothing_before → d.items.items ≡ [] → d.catches.items ≡ [] → (ts : List Told)
      → finished_with past annotations d ts ≡ finished past annotations (told_behind nothing_before ts) ts
  finished_new d context items catches ts = rw (context, items, catches) refl

-- nothing is whole while an annotation is open
still_open : (b : Bool) (n : ℕ) → 0 < n → (b && nat_eq n 0) ≡ false
still_open b n some = and_right b (nat_eq n 0) (ne_eqb n 0 (λ e. omega (arith, e)))

-- ---- the lines from a place on

module _ (arguments : ℕ) (text : List ℕ) (lines : List Line) where
  abbrev past : ℕ
  past = number_behind (text_lines text lines)

  -- what they make of a draft
  abbrev pub draft_from : ℕ → Drafting → Result DraftValue Stop
  draft_from at d = told_by arguments d.context (kept_from text lines at) >>> finished_with past (open_from text lines at) d

  -- from the first line on they make the body of a new draft
  pub from_first : (d : Drafting) → d.context ≡ nothing_before → d.items.items ≡ [] → d.catches.items ≡ [] → draft_from 0 d ≡ body_of arguments (text_lines text lines)
  unfolding body_of
  from_first d context items catches =
      let ls = text_lines text lines in
      ap (λ c. told_by arguments c (kept 0 ls) >>> finished_with past (open_behind 0 ls) d) context
      ∙ then_same (told_by arguments nothing_before (kept 0 ls)) _ _ (finished_new past (open_behind 0 ls) d context items catches)

  module _ (from at : ℕ) (h : Head) (next : IsNext text lines from at h) where
    abbrev l : TextLine
    l = line_at text lines at

    -- the lines up to the next that counts make nothing of a draft
    from_next : (d : Drafting) → draft_from from d ≡ (told_by arguments d.context (l ∷ kept_from text lines (at + 1)) >>> finished_with past (open_from text lines (at + 1)) d)
    from_next d = rw (next.kept, next.depth) refl

    -- a line that is read
    pub one_more : (d e : Drafting) (s : BodyLine) → line_read arguments d.context l ≡ Ok s → Adds d l.number s e → draft_from from d ≡ draft_from (at + 1) e
    one_more d e s is adds =
        let ls = kept_from text lines (at + 1) in
        let annotations = open_from text lines (at + 1) in
        from_next d
        ∙ ap (λ r. r >>> finished_with past annotations d) (told_first arguments d.context l ls s is)
        ∙ told_then l.number s (told_by arguments (told_next d.context s) ls) (finished_with past annotations d)
        ∙ then_same (told_by arguments (told_next d.context s) ls) _ _ (finished_next past annotations d e l.number s adds)
        ∙ ap (λ c. told_by arguments c ls >>> finished_with past annotations e) (sym adds.context)

    -- a line that is refused
    pub refused_here : (d : Drafting) (e : Stop) → line_read arguments d.context l ≡ Err e → draft_from from d ≡ Err e
    refused_here d e is =
        from_next d ∙ ap (λ r. r >>> finished_with past (open_from text lines (at + 1)) d) (refused_first arguments d.context l (kept_from text lines (at + 1)) e is)

  module _ (at : ℕ) (d : Drafting) (none : kept_from text lines at ≡ []) where
    -- no further line counts
    from_none : draft_from at d ≡ finished_with past (open_from text lines at) d []
    unfolding told_by
    from_none = rw none refl

    -- behind the last line
    pub from_end : open_from text lines at ≡ 0 → draft_from at d ≡ finished_with past 0 d []
    from_end closed = from_none ∙ ap (λ n. finished_with past n d []) closed

    -- behind the last line, where an annotation is left open
    pub from_unfinished : 0 < open_from text lines at → draft_from at d ≡ Err (record { line = past; kind = Missing })
    from_unfinished some =
        let c = told_behind d.context [] in
        from_none ∙ ap (λ b. if b then Ok (draft_with d []) else Err (record { line = past; kind = Missing })) (still_open (is_some c.frame && not (is_some c.block)) (open_from text lines at) some)

-- ---- what calls answer

-- the first bad line of some is that of all
pub stops_all : {A B : Type 0} (e : LineError) (some : Result A Stop) (all : Result B Stop) → ((s : Stop) → some ≡ Err s → all ≡ Err s) → Stops e some → Stops e all
stops_all error.Memory some all passes is = tt
stops_all (error.At line kind) some all passes is = passes (record { line = line; kind = kind }) is
