-- Where the schedule of a text begins.
use Rattle.std.proofs.Common.{◌≡◌, ℕ, ◌+◌, ◌-◌, ◌<◌, ◌≤◌, Bool, true, false, List, [], ◌∷◌, ◌++◌, length, map, take, drop, slice_range, Option, Some, None, inl, inr, refl, sym, subst, ap, ◌∙◌, append-nil, arith}
use Rattle.std.specs.Prelude.{◌&&◌}
use Rattle.std.proofs.lemmas.Bool.{cases_Bool, cond-true, cond-false}
use Rattle.std.proofs.lemmas.List.{drop-map, drop_more, take-append-drop, take-map, take_all}
use Rattle.dv_lex.specs.declared.line.Line.{Line}
use Rattle.dv_coderead.specs.declared.head.Head.{Head}
use Rattle.dv_coderead.specs.Heads.{head_of}
use Rattle.dv_coderead.specs.Kept.{TextLine, counts, depth_behind, kept, kept_from, line_at, no_line, open_behind, text_line, text_lines, IsNext, AreNumbered}
use Rattle.dv_coderead.proofs.Passed.{kept_counted, kept_passed}
use Rattle.dv_classread.specs.Schedules.{Cut, IsCutAt, begins_schedule, cut_at_schedule, with_line}
use Rattle.dv_classread.specs.Texts.{IsClosed, kept_between}
use Rattle.dv_classread.proofs.Between.{closed_here, closed_more, counts_here, kept_before, kept_more, kept_to_end}

-- ---- lines before a schedule

-- none of these lines begins a schedule
pub AreNone : List TextLine → Type 0
AreNone [] = Unit {0}
AreNone (l ∷ ls) = (begins_schedule (head_of l.pieces) ≡ false) × AreNone ls

none_more : (ls : List TextLine) (l : TextLine) → AreNone ls → begins_schedule (head_of l.pieces) ≡ false → AreNone (ls ++ l ∷ [])
unfolding AreNone
none_more [] l are isnt = (isnt, tt)
none_more (k ∷ ls) l are isnt = (are.0, none_more ls l are.1 isnt)

with_lines : List TextLine → Option Cut → Option Cut
with_lines [] c = c
with_lines (l ∷ ls) c = with_line l (with_lines ls c)

with_none : (ls : List TextLine) → with_lines ls None ≡ None
unfolding with_lines
with_none [] = refl
with_none (l ∷ ls) = ap (with_line l) (with_none ls)

with_some : (ls : List TextLine) (c : Cut) → with_lines ls (Some c) ≡ Some (record { before = ls ++ c.before; first = c.first; behind = c.behind })
unfolding with_lines
with_some [] c = refl
with_some (l ∷ ls) c = ap (with_line l) (with_some ls c)

first_none : (l : TextLine) (ls : List TextLine) → AreNone (l ∷ ls) → begins_schedule (head_of l.pieces) ≡ false
unfolding AreNone
first_none l ls are = are.0

other_none : (l : TextLine) (ls : List TextLine) → AreNone (l ∷ ls) → AreNone ls
unfolding AreNone
other_none l ls are = are.1

both_false : (a b : Bool) → b ≡ false → (a && b) ≡ false
both_false true b e = e
both_false false b e = refl

left_false : (a b : Bool) → a ≡ false → (a && b) ≡ false
left_false true b e = absurd (cc)
left_false false b e = refl

module _ (n : ℕ) (l : TextLine) (ls : List TextLine) where
  abbrev h : Head
  h = head_of l.pieces

  cut_passed : (counts n h && begins_schedule h) ≡ false → cut_at_schedule n (l ∷ ls) ≡ with_line l (cut_at_schedule (depth_behind n h) ls)
  unfolding cut_at_schedule
  cut_passed isnt = cond-false (counts n h && begins_schedule h) _ _ isnt

  cut_first : (counts n h && begins_schedule h) ≡ true → cut_at_schedule n (l ∷ ls) ≡ Some (record { before = []; first = l; behind = ls })
  unfolding cut_at_schedule
  cut_first is = cond-true (counts n h && begins_schedule h) _ _ is

-- behind lines of which none begins a schedule
cut_append : (n : ℕ) (xs ys : List TextLine) → AreNone (kept n xs) → cut_at_schedule n (xs ++ ys) ≡ with_lines xs (cut_at_schedule (open_behind n xs) ys)
unfolding with_lines open_behind
cut_append n [] ys are = refl
cut_append n (x ∷ xs) ys are =
    let h = head_of x.pieces in
    elim (cases_Bool (counts n h)) [
      | inl is ↦
          let now = subst AreNone (kept_counted n x xs is) are in
          cut_passed n x (xs ++ ys) (both_false (counts n h) (begins_schedule h) (first_none x (kept (depth_behind n h) xs) now)) ∙ ap (with_line x) (cut_append (depth_behind n h) xs ys (other_none x (kept (depth_behind n h) xs) now))
      | inr isnt ↦
          let now = subst AreNone (kept_passed n x xs isnt) are in
          cut_passed n x (xs ++ ys) (left_false (counts n h) (begins_schedule h) isnt) ∙ ap (with_line x) (cut_append (depth_behind n h) xs ys now)
    ]

cut_none : (n : ℕ) → cut_at_schedule n [] ≡ None
unfolding cut_at_schedule
cut_none n = refl

-- ---- lines as code has them

module _ (text : List ℕ) (ls : List Line) where
  all : List TextLine
  all = text_lines text ls

  -- up to a place no line begins a schedule
  pub record IsBefore (at : ℕ) : Type 0 where
    pub inside : at ≤ length ls
    pub closed : IsClosed text ls 0 at
    pub none : AreNone (kept_between text ls 0 at)

  pub before_first : IsBefore 0
  unfolding open_behind kept AreNone
  before_first = record { inside = omega arith; closed = refl; none = tt }

  from_start : (at : ℕ) → slice_range ls 0 at ≡ take at ls
  from_start at =
      let same : at - 0 ≡ at = omega arith in
      ap (λ k. take k ls) same

  front : (at : ℕ) → text_lines text (take at ls) ≡ take at all
  unfolding all
  front at = sym (take-map (text_line text) at ls)

  back : (at : ℕ) → at < length ls → drop at all ≡ line_at text ls at ∷ text_lines text (drop (at + 1) ls)
  unfolding all
  back at lt = drop-map (text_line text) at ls ∙ ap (map (text_line text)) (drop_more ls at no_line lt)

  module _ (are : AreNumbered 1 ls) (at place : ℕ) (is : IsBefore at) (h : Head) (next : IsNext text ls at place h) where
    abbrev l : TextLine
    l = line_at text ls place

    pub before_more : begins_schedule h ≡ false → IsBefore (place + 1)
    before_more isnt = record {
      inside = omega (arith, next.inside);
      closed = closed_more text ls are at place h next 0 (omega arith) is.closed;
      none = subst AreNone (sym (kept_more text ls are at place h next 0 (omega arith) is.closed)) (none_more (kept_between text ls 0 at) l is.none (ap begins_schedule (sym next.head) ∙ isnt));
    }

    pub cut_here : begins_schedule h ≡ true → IsCutAt text ls place
    unfolding all
    cut_here begins =
        let closed = subst (λ ks. open_behind 0 (text_lines text ks) ≡ 0) (from_start place) (closed_here text ls are at place h next 0 (omega arith) is.closed) in
        let none = subst (λ ks. AreNone (kept 0 (text_lines text ks))) (from_start place) (subst AreNone (sym (kept_before text ls are at place h next 0 (omega arith) is.closed)) is.none) in
        let counted = counts_here text ls are at place h next in
        let rest = text_lines text (drop (place + 1) ls) in
        let before = text_lines text (take place ls) in
        let both : (counts 0 (head_of l.pieces) && begins_schedule (head_of l.pieces)) ≡ true = ap (λ b. b && begins_schedule (head_of l.pieces)) counted ∙ ap begins_schedule (sym next.head) ∙ begins in
        record {
          inside = next.inside;
          closed = closed;
          cut =
              ap (cut_at_schedule 0) (sym (take-append-drop place all) ∙ ap (λ ks. take place all ++ ks) (back place next.inside) ∙ ap (λ ks. ks ++ l ∷ rest) (sym (front place)))
              ∙ cut_append 0 before (l ∷ rest) none
              ∙ ap (λ n. with_lines before (cut_at_schedule n (l ∷ rest))) closed
              ∙ ap (with_lines before) (cut_first 0 l rest both)
              ∙ with_some before (record { before = []; first = l; behind = rest })
              ∙ ap (λ ks. Some (record { before = ks; first = l; behind = rest })) (append-nil before);
        }

  -- where no line is left, no schedule begins
  pub cut_nowhere : AreNumbered 1 ls → (at : ℕ) → IsBefore at → kept_from text ls at ≡ [] → cut_at_schedule 0 (text_lines text ls) ≡ None
  unfolding all
  cut_nowhere are at is left =
      let whole : text_lines text (slice_range ls 0 (length ls)) ≡ text_lines text ls = ap (text_lines text) (from_start (length ls) ∙ take_all (length ls) ls (omega arith)) in
      let none = subst AreNone (sym (kept_to_end text ls are 0 at (omega arith) is.inside is.closed left) ∙ ap (kept 0) whole) is.none in
      ap (cut_at_schedule 0) (sym (append-nil (text_lines text ls))) ∙ cut_append 0 (text_lines text ls) [] none
      ∙ ap (with_lines (text_lines text ls)) (cut_none (open_behind 0 (text_lines text ls))) ∙ with_none (text_lines text ls)
