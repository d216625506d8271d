-- What lines tell, line by line.
use Rattle.std.proofs.Common.{◌≡◌, ℕ, ◌+◌, ◌-◌, ◌≤◌, Bool, true, false, List, [], ◌∷◌, ◌++◌, length, take, drop, slice_range, Option, Result, refl, sym, ap, ◌∙◌, arith}
use Rattle.std.specs.Prelude.{if◌then◌else◌}
use Rattle.dv_lex.specs.declared.line.Line.{Line}
use Rattle.dv_lex.specs.declared.line.Stop.{Stop}
use Rattle.dv_coderead.specs.declared.head.Head.{Head}
use Rattle.dv_coderead.specs.declared.kept.Next.{Next}
use Rattle.dv_coderead.specs.declared.kept.Next.TheVariants as next
use Rattle.dv_coderead.specs.Giving.{◌>>>◌, on_line}
use Rattle.dv_coderead.specs.Heads.{head_of}
use Rattle.dv_coderead.specs.Kept.{TextLine, kept, kept_from, line_at, open_behind, open_from, text_lines, Comes, IsNext, AreNumbered}
use Rattle.dv_classread.specs.declared.class_line.Signature.{Signature}
use Rattle.dv_classread.specs.declared.class_line.Standing.{Standing}
use Rattle.dv_classread.specs.ClassLines.{class_line}
use Rattle.dv_classread.specs.Texts.{Told, Spot, InClass, InMethod, IsClosed, IsEnd, IsLeft, added, begun, ended_in, ends_method, kept_between, leaves_method, left_at, method_ended, missing_at, told_from, told_in_method}
use Rattle.dv_classread.proofs.Between.{closed_here, closed_more, kept_before, kept_more, kept_to_end}

-- ---- one line

module _ (end : Option Stop) (past : ℕ) where
  pub told_none : (spot : Spot) → told_from end past spot [] ≡ ended_in end past spot
  unfolding told_from
  told_none spot = refl

  pub told_class : (s : Standing) (l : TextLine) (ls : List TextLine) → told_from end past (InClass s) (l ∷ ls)
      ≡ (on_line l.number (class_line s l.number l.pieces) >>> λ says. added says (told_from end past (begun s says) ls))
  unfolding told_from
  told_class s l ls = refl

  module _ (s : Standing) (sig : Signature) (before : List TextLine) (l : TextLine) (ls : List TextLine) where
    by_head : (ends leaves : Bool) → Result (List Told) Stop
    by_head ends leaves =
        if ends then method_ended sig before l (told_from end past (InClass s) ls)
        else if leaves then left_at (missing_at l.number) sig before
        else told_from end past (InMethod s sig (before ++ l ∷ [])) ls

    told_method : told_from end past (InMethod s sig before) (l ∷ ls) ≡ by_head (ends_method (head_of l.pieces)) (leaves_method (head_of l.pieces))
    unfolding told_from by_head
    told_method = refl

    by_none : by_head false false ≡ told_from end past (InMethod s sig (before ++ l ∷ [])) ls
    unfolding by_head
    by_none = refl

    by_left : by_head false true ≡ left_at (missing_at l.number) sig before
    unfolding by_head
    by_left = refl

    by_end : (leaves : Bool) → by_head true leaves ≡ method_ended sig before l (told_from end past (InClass s) ls)
    unfolding by_head
    by_end leaves = refl

    module _ (h : Head) (head : h ≡ head_of l.pieces) where
      pub told_end : ends_method h ≡ true → told_from end past (InMethod s sig before) (l ∷ ls) ≡ method_ended sig before l (told_from end past (InClass s) ls)
      told_end is = told_method ∙ ap (λ b. by_head b (leaves_method (head_of l.pieces))) (sym (ap ends_method head) ∙ is) ∙ by_end (leaves_method (head_of l.pieces))

      pub told_left : ends_method h ≡ false → leaves_method h ≡ true → told_from end past (InMethod s sig before) (l ∷ ls) ≡ left_at (missing_at l.number) sig before
      told_left isnt is = told_method ∙ ap (λ b. by_head b (leaves_method (head_of l.pieces))) (sym (ap ends_method head) ∙ isnt) ∙ ap (by_head false) (sym (ap leaves_method head) ∙ is) ∙ by_left

      pub told_more : ends_method h ≡ false → leaves_method h ≡ false → told_from end past (InMethod s sig before) (l ∷ ls) ≡ told_from end past (InMethod s sig (before ++ l ∷ [])) ls
      told_more isnt stays = told_method ∙ ap (λ b. by_head b (leaves_method (head_of l.pieces))) (sym (ap ends_method head) ∙ isnt) ∙ ap (by_head false) (sym (ap leaves_method head) ∙ stays) ∙ by_none

-- where no further line counts there is none
pub none_left : (text : List ℕ) (ls : List Line) (at : ℕ) (n : Next) → Comes text ls at n → ((place : ℕ) (h : Head) → n ≡ next.Line place h → ⊥) → kept_from text ls at ≡ []
none_left text ls at (next.Line place h) comes isnt = absurd (isnt place h refl)
none_left text ls at next.End comes isnt = comes.0
none_left text ls at next.Unfinished comes isnt = comes.0

-- ---- a method from its first line on

module _ (text : List ℕ) (ls : List Line) (from : ℕ) where
  -- up to a place its lines neither end it nor leave it
  pub record IsWithin (at : ℕ) : Type 0 where
    pub place : from ≤ at
    pub inside : at ≤ length ls
    pub closed : IsClosed text ls from at
    pub depth : open_from text ls from ≡ open_from text ls at
    pub told : (end : Option Stop) (past : ℕ) (s : Standing) (sig : Signature) → told_in_method text ls from end past s sig
        ≡ told_from end past (InMethod s sig (kept_between text ls from at)) (kept_from text ls at)

  empty_between : slice_range ls from from ≡ []
  empty_between =
      let none : from - from ≡ 0 = omega arith in
      ap (λ k. take k (drop from ls)) none

  pub within_first : from ≤ length ls → IsWithin from
  unfolding kept open_behind
  within_first le = record {
    place = omega arith;
    inside = le;
    closed = ap (λ ks. open_behind 0 (text_lines text ks)) empty_between;
    depth = refl;
    told = λ end past s sig. ap (λ ks. told_from end past (InMethod s sig (kept 0 (text_lines text ks))) (kept_from text ls from)) (sym empty_between);
  }

  module _ (are : AreNumbered 1 ls) (at place : ℕ) (is : IsWithin at) (h : Head) (next : IsNext text ls at place h) where
    abbrev l : TextLine
    l = line_at text ls place

    told_here : (end : Option Stop) (past : ℕ) (s : Standing) (sig : Signature) → told_in_method text ls from end past s sig
        ≡ told_from end past (InMethod s sig (kept_between text ls from at)) (l ∷ kept_from text ls (place + 1))
    told_here end past s sig = is.told end past s sig ∙ ap (told_from end past (InMethod s sig (kept_between text ls from at))) next.kept

    same_before : kept_between text ls from place ≡ kept_between text ls from at
    same_before = kept_before text ls are at place h next from is.place is.closed

    pub ends_here : ends_method h ≡ true → IsEnd text ls from place
    ends_here ends = record {
      behind = omega (arith, is.place, next.behind);
      inside = next.inside;
      closed = closed_here text ls are at place h next from is.place is.closed;
      depth = is.depth ∙ next.depth;
      told = λ end past s sig.
          told_here end past s sig ∙ told_end end past s sig (kept_between text ls from at) l (kept_from text ls (place + 1)) h next.head ends
          ∙ ap (λ ks. method_ended sig ks l (told_from end past (InClass s) (kept_from text ls (place + 1)))) (sym same_before);
    }

    pub left_here : ends_method h ≡ false → leaves_method h ≡ true → IsLeft text ls from place
    left_here isnt leaves = record {
      behind = omega (arith, is.place, next.behind);
      inside = next.inside;
      told = λ end past s sig.
          told_here end past s sig ∙ told_left end past s sig (kept_between text ls from at) l (kept_from text ls (place + 1)) h next.head isnt leaves
          ∙ ap (left_at (missing_at l.number) sig) (sym same_before);
    }

    pub within_more : ends_method h ≡ false → leaves_method h ≡ false → IsWithin (place + 1)
    within_more isnt stays = record {
      place = omega (arith, is.place, next.behind);
      inside = omega (arith, next.inside);
      closed = closed_more text ls are at place h next from is.place is.closed;
      depth = is.depth ∙ next.depth;
      told = λ end past s sig.
          told_here end past s sig ∙ told_more end past s sig (kept_between text ls from at) l (kept_from text ls (place + 1)) h next.head isnt stays
          ∙ ap (λ ks. told_from end past (InMethod s sig ks) (kept_from text ls (place + 1))) (sym (kept_more text ls are at place h next from is.place is.closed));
    }

  -- where no line is left, the method is cut off
  pub cut_off : AreNumbered 1 ls → (at : ℕ) → IsWithin at → kept_from text ls at ≡ [] → (end : Option Stop) (past : ℕ) (s : Standing) (sig : Signature) → told_in_method text ls from end past s sig
      ≡ ended_in end past (InMethod s sig (kept_between text ls from (length ls)))
  cut_off are at is none end past s sig =
      is.told end past s sig ∙ ap (told_from end past (InMethod s sig (kept_between text ls from at))) none
      ∙ told_none end past (InMethod s sig (kept_between text ls from at))
      ∙ ap (λ ks. ended_in end past (InMethod s sig ks)) (sym (kept_to_end text ls are from at is.place is.inside is.closed none))
