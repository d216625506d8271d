-- Lines that count.
use Rattle.std.proofs.Common.{◌≡◌, ℕ, ◌+◌, true, List, [], ◌∷◌, inl, inr, refl, ap, ◌∙◌}
use Rattle.std.specs.Prelude.{not, All}
use Rattle.std.proofs.lemmas.Bool.{and_parts, cases_Bool, cond-true, cond-false, not-true}
use Rattle.std.proofs.lemmas.List.Elements.{All-head, All-tail}
use Rattle.dv_coderead.specs.declared.head.Head.{Head}
use Rattle.dv_coderead.specs.Heads.{head_of}
use Rattle.dv_coderead.specs.Kept.{TextLine, closes, counts, depth_behind, is_passed, kept, open_behind, opens}
use Rattle.dv_coderead.specs.Pieces.{Piece}
use Rattle.law_listing.specs.Printed.{numbered}

pub record Counts (ps : List Piece) : Type 0 where
  pub counts : counts 0 (head_of ps) ≡ true

-- no annotation is opened
pub depth_stays : (h : Head) → counts 0 h ≡ true → depth_behind 0 h ≡ 0
depth_stays h e =
    let p = and_parts (not (opens h)) (not (is_passed h)) e in
    cond-false (opens h) _ _ (not-true (opens h) p.0) ∙ elim (cases_Bool (closes h)) [
      | inl is ↦ cond-true (closes h) _ _ is
      | inr other ↦ cond-false (closes h) _ _ other
    ]

line_kept : (l : TextLine) (ls : List TextLine) → counts 0 (head_of l.pieces) ≡ true → kept 0 (l ∷ ls) ≡ l ∷ kept 0 ls
unfolding kept
line_kept l ls e = cond-true (counts 0 (head_of l.pieces)) _ _ e ∙ ap (λ n. l ∷ kept n ls) (depth_stays (head_of l.pieces) e)

line_closed : (l : TextLine) (ls : List TextLine) → counts 0 (head_of l.pieces) ≡ true → open_behind 0 (l ∷ ls) ≡ open_behind 0 ls
unfolding open_behind
line_closed l ls e = ap (λ n. open_behind n ls) (depth_stays (head_of l.pieces) e)

pub lines_kept : (n : ℕ) (pss : List (List Piece)) → All Counts pss → kept 0 (numbered n pss) ≡ numbered n pss
unfolding kept
lines_kept n [] all = refl
lines_kept n (ps ∷ pss) all =
    let h = All-head Counts ps pss all in
    line_kept (record { number = n; pieces = ps }) (numbered (n + 1) pss) h.counts
    ∙ ap (λ ls. record { number = n; pieces = ps } ∷ ls) (lines_kept (n + 1) pss (All-tail Counts ps pss all))

pub lines_closed : (n : ℕ) (pss : List (List Piece)) → All Counts pss → open_behind 0 (numbered n pss) ≡ 0
unfolding open_behind
lines_closed n [] all = refl
lines_closed n (ps ∷ pss) all =
    let h = All-head Counts ps pss all in
    line_closed (record { number = n; pieces = ps }) (numbered (n + 1) pss) h.counts ∙ lines_closed (n + 1) pss (All-tail Counts ps pss all)
