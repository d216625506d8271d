-- The lines that count between two places.
use Rattle.std.proofs.Common.{◌≡◌, ℕ, zero, suc, ◌+◌, ◌-◌, ◌<◌, ◌≤◌, true, List, [], ◌∷◌, ◌++◌, length, take, drop, slice_range, inl, inr, refl, sym, subst, ap, ◌∙◌, append-nil, arith}
use Rattle.std.proofs.lemmas.Bool.{cases_Bool, cond-true, cond-false}
use Rattle.std.proofs.lemmas.List.{drop-drop, drop-map, drop_more, length-drop, length-map, map-append, take-map, take_all}
use Rattle.std.proofs.Math.Seq.{take-add}
use Rattle.dv_lex.specs.declared.line.Line.{Line}
use Rattle.dv_coderead.specs.declared.head.Head.{Head}
use Rattle.dv_coderead.specs.Heads.{head_of}
use Rattle.dv_coderead.specs.Kept.{TextLine, counts, depth_behind, kept, kept_from, line_at, no_line, open_behind, text_line, text_lines, IsNext, AreNumbered}
use Rattle.dv_coderead.proofs.Passed.{counted_outside, depth_counted, kept_counted, kept_none, kept_passed, open_line, open_none}
use Rattle.dv_classread.specs.Texts.{IsClosed, kept_between}

-- ---- parts of lists

slice_parts : {A : Type 0} (xs : List A) (from at to : ℕ) → from ≤ at → at ≤ to → slice_range xs from to ≡ slice_range xs from at ++ slice_range xs at to
slice_parts xs from at to le le2 =
    let ys = drop from xs in
    let n = at - from in
    let m = to - at in
    ap (λ k. take k ys) (omega (arith, le, le2)) ∙ take-add n m ys ∙ ap (λ zs. take n ys ++ take m zs) (drop-drop n from xs ∙ ap (λ k. drop k xs) (omega (arith, le)))

-- ---- lines one behind the other

kept_append : (n : ℕ) (xs ys : List TextLine) → kept n (xs ++ ys) ≡ kept n xs ++ kept (open_behind n xs) ys
unfolding kept open_behind
kept_append n [] ys = refl
kept_append n (x ∷ xs) ys =
    let h = head_of x.pieces in
    let rest = kept_append (depth_behind n h) xs ys in
    elim (cases_Bool (counts n h)) [
      | inl is ↦ cond-true (counts n h) _ _ is ∙ ap (λ ls. x ∷ ls) rest ∙ sym (ap (λ ls. ls ++ kept (open_behind (depth_behind n h) xs) ys) (cond-true (counts n h) _ _ is))
      | inr isnt ↦ cond-false (counts n h) _ _ isnt ∙ rest ∙ sym (ap (λ ls. ls ++ kept (open_behind (depth_behind n h) xs) ys) (cond-false (counts n h) _ _ isnt))
    ]

open_append : (n : ℕ) (xs ys : List TextLine) → open_behind n (xs ++ ys) ≡ open_behind (open_behind n xs) ys
unfolding open_behind
open_append n [] ys = refl
open_append n (x ∷ xs) ys = open_append (depth_behind n (head_of x.pieces)) xs ys

-- ---- the first line that counts

-- lines are numbered one by one
AreOneByOne : ℕ → List TextLine → Type 0
AreOneByOne n [] = Unit {0}
AreOneByOne n (l ∷ ls) = (l.number ≡ n) × AreOneByOne (n + 1) ls

one_by_one : (text : List ℕ) (n : ℕ) (ls : List Line) → AreNumbered n ls → AreOneByOne n (text_lines text ls)
unfolding AreOneByOne
one_by_one text n [] are = tt
one_by_one text n (l ∷ ls) are = (are.0, one_by_one text (n + 1) ls are.1)

drop_one_by_one : (n k : ℕ) (ls : List TextLine) → AreOneByOne n ls → AreOneByOne (n + k) (drop k ls)
unfolding AreOneByOne
drop_one_by_one n zero ls are = subst (λ m. AreOneByOne m ls) (omega arith) are
drop_one_by_one n (suc k) [] are = tt
drop_one_by_one n (suc k) (l ∷ ls) are = subst (λ m. AreOneByOne m (drop k ls)) (omega arith) (drop_one_by_one (n + 1) k ls are.1)

first_of : {A : Type 0} {x y : A} {xs ys : List A} → x ∷ xs ≡ y ∷ ys → x ≡ y
first_of e = cc

-- a line that is kept stands no earlier than the first
kept_number : (n m : ℕ) (zs : List TextLine) → AreOneByOne m zs → (l : TextLine) (ls : List TextLine) → kept n zs ≡ l ∷ ls → m ≤ l.number
unfolding AreOneByOne
kept_number n m [] are l ls is = let none : [] ≡ l ∷ ls = sym (kept_none n) ∙ is in cc
kept_number n m (z ∷ zs) are l ls is =
    let h = head_of z.pieces in
    elim (cases_Bool (counts n h)) [
      | inl counted ↦ let same = first_of (sym (kept_counted n z zs counted) ∙ is) in omega (arith, are.0, ap (λ (t : TextLine). t.number) same)
      | inr passed ↦ let rest = kept_number (depth_behind n h) (m + 1) zs are.1 l ls (sym (kept_passed n z zs passed) ∙ is) in omega (arith, rest)
    ]

-- the first line that counts is this one, behind so many
record IsFirst (n j : ℕ) (zs : List TextLine) (l : TextLine) : Type 0 where
  before : kept n (take j zs) ≡ []
  closed : open_behind n (take j zs) ≡ 0
  with_it : kept n (take (suc j) zs) ≡ l ∷ []
  behind : open_behind n (take (suc j) zs) ≡ 0

module _ (l : TextLine) (ls : List TextLine) where
  is_first : (n m j : ℕ) (zs : List TextLine) → AreOneByOne m zs → kept n zs ≡ l ∷ ls → l.number ≡ m + j → IsFirst n j zs l
  unfolding AreOneByOne
  is_first n m j [] are is at = let none : [] ≡ l ∷ ls = sym (kept_none n) ∙ is in cc
  is_first n m zero (z ∷ zs) are is at =
      let h = head_of z.pieces in
      elim (cases_Bool (counts n h)) [
        | inl counted ↦ record {
          before = kept_none n;
          closed = open_none n ∙ counted_outside n h counted;
          with_it = kept_counted n z [] counted ∙ ap (λ ks. z ∷ ks) (kept_none (depth_behind n h)) ∙ ap (λ t. t ∷ []) (first_of (sym (kept_counted n z zs counted) ∙ is));
          behind = open_line n z [] ∙ open_none (depth_behind n h) ∙ depth_counted n h counted;
        }
        | inr passed ↦ let rest = kept_number (depth_behind n h) (m + 1) zs are.1 l ls (sym (kept_passed n z zs passed) ∙ is) in absurd (omega (arith, rest, at))
      ]
  is_first n m (suc j) (z ∷ zs) are is at =
      let h = head_of z.pieces in
      elim (cases_Bool (counts n h)) [
        | inl counted ↦ let same = first_of (sym (kept_counted n z zs counted) ∙ is) in absurd (omega (arith, are.0, at, ap (λ (t : TextLine). t.number) same))
        | inr passed ↦
            let rest = is_first (depth_behind n h) (m + 1) j zs are.1 (sym (kept_passed n z zs passed) ∙ is) (at ∙ omega arith) in
            record {
              before = kept_passed n z (take j zs) passed ∙ rest.before;
              closed = open_line n z (take j zs) ∙ rest.closed;
              with_it = kept_passed n z (take (suc j) zs) passed ∙ rest.with_it;
              behind = open_line n z (take (suc j) zs) ∙ rest.behind;
            }
      ]

-- ---- lines as code has them

module _ (text : List ℕ) where
  -- the lines between places
  between : List Line → ℕ → ℕ → List TextLine
  between ls from to = text_lines text (slice_range ls from to)

  between_is : (ls : List Line) (from to : ℕ) → between ls from to ≡ take (to - from) (drop from (text_lines text ls))
  unfolding between
  between_is ls from to = sym (ap (take (to - from)) (drop-map (text_line text) from ls) ∙ take-map (text_line text) (to - from) (drop from ls))

  parts_between : (ls : List Line) (from at to : ℕ) → from ≤ at → at ≤ to → between ls from to ≡ between ls from at ++ between ls at to
  unfolding between
  parts_between ls from at to le le2 = ap (text_lines text) (slice_parts ls from at to le le2) ∙ map-append (text_line text) (slice_range ls from at) (slice_range ls at to)

  one_between : (ls : List Line) (at : ℕ) → at < length ls → between ls at (at + 1) ≡ line_at text ls at ∷ []
  unfolding between
  one_between ls at lt =
      let one : (at + 1) - at ≡ 1 = omega arith in
      ap (λ k. text_lines text (take k (drop at ls))) one ∙ ap (λ ks. text_lines text (take 1 ks)) (drop_more ls at no_line lt)

  line_number : (n k : ℕ) (ls : List Line) → AreNumbered n ls → k < length ls → (line_at text ls k).number ≡ n + k
  line_number n k [] are lt = absurd (omega arith)
  line_number n zero (l ∷ ls) are lt = are.0 ∙ omega arith
  line_number n (suc k) (l ∷ ls) are lt = line_number (n + 1) k ls are.1 (omega arith) ∙ omega arith

  module _ (ls : List Line) (are : AreNumbered 1 ls) where
    -- the number of the line at a place
    pub number_at : (at : ℕ) → at < length ls → (line_at text ls at).number ≡ 1 + at
    number_at at lt = line_number 1 at ls are lt

    module _ (at place : ℕ) (h : Head) (next : IsNext text ls at place h) where
      all : List TextLine
      all = text_lines text ls

      next_first : IsFirst 0 (place - at) (drop at all) (line_at text ls place)
      unfolding all
      next_first =
          let number : (line_at text ls place).number ≡ (1 + at) + (place - at) = number_at place next.inside ∙ omega (arith, next.behind) in
          is_first (line_at text ls place) (kept_from text ls (place + 1)) 0 (1 + at) (place - at) (drop at all) (drop_one_by_one 1 at all (one_by_one text 1 ls are)) next.kept number

      one_more : (place + 1) - at ≡ suc (place - at)
      one_more = omega (arith, next.behind)

      -- before the next line that counts there is none, and no annotation is left open
      none_before : kept 0 (between ls at place) ≡ []
      unfolding all
      none_before = ap (kept 0) (between_is ls at place) ∙ next_first.before

      closed_before : open_behind 0 (between ls at place) ≡ 0
      unfolding all
      closed_before = ap (open_behind 0) (between_is ls at place) ∙ next_first.closed

      -- with it there is it alone
      one_with : kept 0 (between ls at (place + 1)) ≡ line_at text ls place ∷ []
      unfolding all
      one_with = ap (kept 0) (between_is ls at (place + 1)) ∙ ap (λ k. kept 0 (take k (drop at all))) one_more ∙ next_first.with_it

      closed_with : open_behind 0 (between ls at (place + 1)) ≡ 0
      unfolding all
      closed_with = ap (open_behind 0) (between_is ls at (place + 1)) ∙ ap (λ k. open_behind 0 (take k (drop at all))) one_more ∙ next_first.behind

      -- the line counts
      pub counts_here : counts 0 (head_of (line_at text ls place).pieces) ≡ true
      counts_here =
          let l = line_at text ls place in
          let h = head_of l.pieces in
          let split : between ls at (place + 1) ≡ between ls at place ++ l ∷ [] = parts_between ls at place (place + 1) next.behind (omega arith) ∙ ap (λ ks. between ls at place ++ ks) (one_between ls place next.inside) in
          let alone : kept 0 (l ∷ []) ≡ l ∷ [] =
          sym (ap (kept 0) split ∙ kept_append 0 (between ls at place) (l ∷ []) ∙ ap (λ n. kept 0 (between ls at place) ++ kept n (l ∷ [])) closed_before ∙ ap (λ ks. ks ++ kept 0 (l ∷ [])) none_before) ∙ one_with in
          elim (cases_Bool (counts 0 h)) [
            | inl is ↦ is
            | inr isnt ↦ let none : [] ≡ l ∷ [] = sym (kept_passed 0 l [] isnt ∙ kept_none (depth_behind 0 h)) ∙ alone in absurd (cc)
          ]

      module _ (from : ℕ) (le : from ≤ at) (closed : IsClosed text ls from at) where
        -- between an earlier place and the line the same lines count as before
        pub kept_before : kept_between text ls from place ≡ kept_between text ls from at
        unfolding between
        kept_before =
            ap (kept 0) (parts_between ls from at place le next.behind) ∙ kept_append 0 (between ls from at) (between ls at place)
            ∙ ap (λ n. kept 0 (between ls from at) ++ kept n (between ls at place)) closed ∙ ap (λ ks. kept 0 (between ls from at) ++ ks) none_before
            ∙ append-nil (kept 0 (between ls from at))

        pub closed_here : IsClosed text ls from place
        unfolding between
        closed_here =
            ap (open_behind 0) (parts_between ls from at place le next.behind) ∙ open_append 0 (between ls from at) (between ls at place)
            ∙ ap (λ n. open_behind n (between ls at place)) closed ∙ closed_before

        -- behind the line it counts too
        pub kept_more : kept_between text ls from (place + 1) ≡ kept_between text ls from at ++ line_at text ls place ∷ []
        unfolding between
        kept_more =
            ap (kept 0) (parts_between ls from at (place + 1) le (omega (arith, next.behind))) ∙ kept_append 0 (between ls from at) (between ls at (place + 1))
            ∙ ap (λ n. kept 0 (between ls from at) ++ kept n (between ls at (place + 1))) closed ∙ ap (λ ks. kept 0 (between ls from at) ++ ks) one_with

        pub closed_more : IsClosed text ls from (place + 1)
        unfolding between
        closed_more =
            ap (open_behind 0) (parts_between ls from at (place + 1) le (omega (arith, next.behind))) ∙ open_append 0 (between ls from at) (between ls at (place + 1))
            ∙ ap (λ n. open_behind n (between ls at (place + 1))) closed ∙ closed_with

    -- up to the end the lines are those of a place, and then the rest
    module _ (from at : ℕ) (le : from ≤ at) (within : at ≤ length ls) (closed : IsClosed text ls from at) where
      pub kept_to_end : kept_from text ls at ≡ [] → kept_between text ls from (length ls) ≡ kept_between text ls from at
      unfolding between
      kept_to_end none =
          let rest : between ls at (length ls) ≡ drop at (text_lines text ls) = between_is ls at (length ls) ∙ take_all (length ls - at) (drop at (text_lines text ls)) (omega (arith, length-drop at (text_lines text ls), length-map ls (text_line text))) in
          ap (kept 0) (parts_between ls from at (length ls) le within) ∙ kept_append 0 (between ls from at) (between ls at (length ls))
          ∙ ap (λ n. kept 0 (between ls from at) ++ kept n (between ls at (length ls))) closed
          ∙ ap (λ zs. kept 0 (between ls from at) ++ kept 0 zs) rest ∙ ap (λ ks. kept 0 (between ls from at) ++ ks) none
          ∙ append-nil (kept 0 (between ls from at))
