-- The lines from a place on, where the places before it are passed.
use Rattle.std.proofs.Common.{◌≡◌, ℕ, ◌+◌, ◌-◌, ◌<◌, ◌≤◌, Bool, true, false, cond, List, [], ◌∷◌, length, map, drop, slice_index_or, refl, sym, subst, ap, ◌∙◌, arith}
use Rattle.std.proofs.lemmas.Bool.{and_parts, cond-true, cond-false, eqb-true}
use Rattle.std.proofs.lemmas.List.{at_drop_all, drop-map, drop_more, get_or_default, length-map}
use Rattle.dv_lex.specs.declared.token.Token.{Token}
use Rattle.dv_lex.specs.declared.line.Line.{Line}
use Rattle.dv_lex.specs.Lines.{lexemes_in}
use Rattle.dv_coderead.specs.declared.head.Head.{Head}
use Rattle.dv_coderead.specs.Heads.{head_of}
use Rattle.dv_coderead.specs.Pieces.{pieces_of}
use Rattle.dv_coderead.specs.Kept.{TextLine, closes, counts, depth_behind, kept, kept_from, line_at, no_line, open_behind, open_from, opens, text_line, text_lines, IsNext}
use Rattle.dv_coderead.proofs.Cuts.{not_true}

-- ---- one line

-- a line that counts stands outside of annotations
pub counted_outside : (n : ℕ) (h : Head) → counts n h ≡ true → n ≡ 0
counted_outside n h is = eqb-true n 0 (and_parts _ _ (and_parts _ _ is).0).0

-- a line that counts opens no annotation
counted_opens : (n : ℕ) (h : Head) → counts n h ≡ true → opens h ≡ false
counted_opens n h is = not_true (opens h) (and_parts _ _ (and_parts _ _ is).0).1

-- outside of annotations the depth stays where none is opened, also at the end of one
outside_stays : (o k : Bool) → o ≡ false → cond o (0 + 1) (cond k (0 - 1) 0) ≡ 0
outside_stays true k e = absurd (cc)
outside_stays false true e = refl
outside_stays false false e = refl

-- no annotation is open behind a line that counts
pub depth_counted : (n : ℕ) (h : Head) → counts n h ≡ true → depth_behind n h ≡ 0
depth_counted n h is = ap (λ m. depth_behind m h) (counted_outside n h is) ∙ outside_stays (opens h) (closes h) (counted_opens n h is)

-- a depth that grows by one, falls by one or stays is at most one more
one_more : (o k : Bool) (n : ℕ) → cond o (n + 1) (cond k (n - 1) n) ≤ n + 1
one_more true k n = omega arith
one_more false true n = omega arith
one_more false false n = omega arith

-- behind a line at most one more annotation is open
depth_more : (n : ℕ) (h : Head) → depth_behind n h ≤ n + 1
depth_more n h = one_more (opens h) (closes h) n

module _ (n : ℕ) (l : TextLine) (ls : List TextLine) where
  -- a line that counts is kept
  pub kept_counted : counts n (head_of l.pieces) ≡ true → kept n (l ∷ ls) ≡ l ∷ kept (depth_behind n (head_of l.pieces)) ls
  unfolding kept
  kept_counted is = cond-true (counts n (head_of l.pieces)) _ _ is

  -- another one isn't
  pub kept_passed : counts n (head_of l.pieces) ≡ false → kept n (l ∷ ls) ≡ kept (depth_behind n (head_of l.pieces)) ls
  unfolding kept
  kept_passed is = cond-false (counts n (head_of l.pieces)) _ _ is

  -- the depth behind lines is that behind the first, and then behind the others
  pub open_line : open_behind n (l ∷ ls) ≡ open_behind (depth_behind n (head_of l.pieces)) ls
  unfolding open_behind
  open_line = refl

-- of no lines none is kept
pub kept_none : (n : ℕ) → kept n [] ≡ []
unfolding kept
kept_none n = refl

-- and the depth behind them is that before them
pub open_none : (n : ℕ) → open_behind n [] ≡ n
unfolding open_behind
open_none n = refl

-- ---- lines as code has them

module _ (text : List ℕ) (ls : List Line) where
  -- the line at a place stands in front of the rest
  line_first : (at : ℕ) → at < length ls → drop at (text_lines text ls) ≡ line_at text ls at ∷ drop (at + 1) (text_lines text ls)
  line_first at lt =
      let f = text_line text in
      drop-map f at ls ∙ ap (map f) (drop_more ls at no_line lt) ∙ ap (λ more. line_at text ls at ∷ more) (sym (drop-map f (at + 1) ls))

  -- a head that was read from the tokens at a place is its line's
  pub head_at : (at : ℕ) → at < length ls → (read : Line) (tokens : List Token) (h : Head) → tokens ≡ (slice_index_or ls at read).tokens → h ≡ head_of (pieces_of (lexemes_in text tokens)) → h ≡ head_of (line_at text ls at).pieces
  head_at at lt read tokens h same is =
      is ∙ ap (λ ts. head_of (pieces_of (lexemes_in text ts))) (same ∙ ap (λ l. l.tokens) (get_or_default ls at read no_line lt))

  -- the places up to this are passed: what counts from the first on counts from here on, where so many annotations are open
  pub record IsPassed (from n at : ℕ) : Type 0 where
    pub place : from + n ≤ at
    pub inside : at ≤ length ls
    pub lines : kept_from text ls from ≡ kept n (drop at (text_lines text ls))
    pub depth : open_from text ls from ≡ open_behind n (drop at (text_lines text ls))

  module _ (from n at : ℕ) (is : IsPassed from n at) where
    -- the line here is the next, if it counts
    pub one_counts : at < length ls → (h : Head) → h ≡ head_of (line_at text ls at).pieces → counts n h ≡ true → IsNext text ls from at h
    one_counts lt h head counted =
        let l = line_at text ls at in
        let more = drop (at + 1) (text_lines text ls) in
        let outside = depth_counted n h counted in
        record {
          behind = omega (arith, is.place);
          inside = lt;
          head = head;
          kept =
              is.lines ∙ ap (kept n) (line_first at lt) ∙ kept_counted n l more (subst (λ k. counts n k ≡ true) head counted)
              ∙ ap (λ k. l ∷ kept (depth_behind n k) more) (sym head) ∙ ap (λ m. l ∷ kept m more) outside;
          depth =
              is.depth ∙ ap (open_behind n) (line_first at lt) ∙ open_line n l more
              ∙ ap (λ k. open_behind (depth_behind n k) more) (sym head) ∙ ap (λ m. open_behind m more) outside;
        }

    -- or else it is passed too
    pub one_passed : at < length ls → (h : Head) → h ≡ head_of (line_at text ls at).pieces → counts n h ≡ false → IsPassed from (depth_behind n h) (at + 1)
    one_passed lt h head passed =
        let l = line_at text ls at in
        let more = drop (at + 1) (text_lines text ls) in
        record {
          place = omega (arith, is.place, depth_more n h);
          inside = omega arith;
          lines =
              is.lines ∙ ap (kept n) (line_first at lt) ∙ kept_passed n l more (subst (λ k. counts n k ≡ false) head passed)
              ∙ ap (λ k. kept (depth_behind n k) more) (sym head);
          depth =
              is.depth ∙ ap (open_behind n) (line_first at lt) ∙ open_line n l more
              ∙ ap (λ k. open_behind (depth_behind n k) more) (sym head);
        }

    -- at the end no line is left that counts
    pub none_left : length ls ≤ at → kept_from text ls from ≡ []
    none_left le = is.lines ∙ at_drop_all (kept n) (text_lines text ls) at (simp length-map le) ∙ kept_none n

    -- and so many annotations are open
    pub depth_left : length ls ≤ at → open_from text ls from ≡ n
    depth_left le = is.depth ∙ at_drop_all (open_behind n) (text_lines text ls) at (simp length-map le) ∙ open_none n
