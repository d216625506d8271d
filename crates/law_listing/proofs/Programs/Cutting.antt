-- The schedule begins behind the lines of the classes.
use Rattle.std.proofs.Common.{◌≡◌, ℕ, ◌+◌, ◌&&◌, true, false, List, [], ◌∷◌, ◌++◌, length, Some, None, Result, Ok, Err, IfOk, refl, ap, ◌∙◌, arith}
use Rattle.std.specs.Prelude.{All}
use Rattle.std.proofs.lemmas.Bool.{and_right, cond_both, cond-true, cond-false}
use Rattle.std.proofs.lemmas.List.Elements.{All-nil, All-cons, All-head, All-tail}
use Rattle.dv_lex.specs.declared.line.Stop.{Stop}
use Rattle.dv_coderead.specs.declared.head.Directive.TheVariants as directive
use Rattle.dv_coderead.specs.declared.head.Head.{Head}
use Rattle.dv_coderead.specs.declared.head.Head.TheVariants as head
use Rattle.dv_coderead.specs.Heads.{head_of}
use Rattle.dv_coderead.specs.Kept.{TextLine, counts}
use Rattle.dv_coderead.specs.Operands.{after_first, ended}
use Rattle.dv_coderead.specs.Pieces.{Piece}
use Rattle.dv_classread.specs.declared.class_line.ClassLine.{ClassLine}
use Rattle.dv_classread.specs.declared.class_line.ClassLine.TheVariants as line
use Rattle.dv_classread.specs.declared.class_line.Standing.{Standing}
use Rattle.dv_classread.specs.declared.class_line.Standing.TheVariants as standing
use Rattle.dv_classread.specs.ClassLines.{by_head, class_line}
use Rattle.dv_classread.specs.Methods.{method_body}
use Rattle.dv_classread.specs.Schedules.{begins_schedule, cut_at_schedule, with_line}
use Rattle.dv_classread.specs.Texts.{Told, Says, Method, Spot, InClass, InMethod, added, and_told, begun, ends_method, leaves_method, told_from}
use Rattle.law_listing.specs.Printed.{numbered}
use Rattle.law_listing.proofs.ClassListing.Kept.{Counts, depth_stays}
use Rattle.law_listing.proofs.ReadBody.{any_ok, line_then, then_listed}

-- ---- lines that tell something begin no schedule

pub record BeginsNone (l : TextLine) : Type 0 where
  pub none : begins_schedule (head_of l.pieces) ≡ false

pub always : {A E : Type 0} (P : Type 0) (read : Result A E) → P → IfOk read (λ _. P)
always P (Ok x) is = is
always P (Err e) is = tt

head_none : (s : Standing) (n : ℕ) (h : Head) (ps : List Piece) → IfOk (by_head s n h ps) (λ _. begins_schedule h ≡ false)
head_none standing.Outside n (head.Directive directive.Schedule) ps = tt
head_none (standing.Inside is_object has_super) n (head.Directive directive.Schedule) ps = tt
head_none s n h ps = always (begins_schedule h ≡ false) (by_head s n h ps) refl

line_none : (s : Standing) (n : ℕ) (ps : List Piece) → IfOk (class_line s n ps) (λ _. begins_schedule (head_of ps) ≡ false)
unfolding class_line
line_none s n ps = head_none s n (head_of ps) ps

end_none : (h : Head) → ends_method h ≡ true → begins_schedule h ≡ false
end_none (head.Directive directive.Schedule) e = absurd (cc)
end_none h e = refl

inside_none : (h : Head) → leaves_method h ≡ false → begins_schedule h ≡ false
inside_none (head.Directive directive.Schedule) e = absurd (cc)
inside_none h e = refl

abbrev BeginNone : List TextLine → Result (List Told) Stop → Type 0
BeginNone ls read = IfOk read (λ _. All BeginsNone ls)

one_more : (l : TextLine) (ls : List TextLine) (read : Result (List Told) Stop) → begins_schedule (head_of l.pieces) ≡ false → BeginNone ls read → BeginNone (l ∷ ls) read
one_more l ls (Ok ts) none are = All-cons BeginsNone l ls (record { none = none }) are
one_more l ls (Err e) none are = tt

and_told_none : (t : Told) (ls : List TextLine) (read : Result (List Told) Stop) → BeginNone ls read → BeginNone ls (and_told t read)
and_told_none t ls (Ok ts) are = are
and_told_none t ls (Err e) are = tt

added_none : (says : ClassLine) (ls : List TextLine) (read : Result (List Told) Stop) → BeginNone ls read → BeginNone ls (added says read)
added_none (line.Method sig) ls read are = are
added_none says ls read are = and_told_none (Says says) ls read are

pub told_none : (past : ℕ) (spot : Spot) (ls : List TextLine) → BeginNone ls (told_from None past spot ls)
unfolding told_from
told_none past spot [] = always (All BeginsNone []) (told_from None past spot []) (All-nil BeginsNone)
told_none past (InClass s) (l ∷ ls) =
    line_then (λ _. begins_schedule (head_of l.pieces) ≡ false) (λ _. All BeginsNone (l ∷ ls)) l.number (class_line s l.number l.pieces) _ (line_none s l.number l.pieces) (λ says none.
    let read = told_from None past (begun s says) ls in
    added_none says (l ∷ ls) read (one_more l ls read none (told_none past (begun s says) ls)))
told_none past (InMethod s sig before) (l ∷ ls) =
    cond_both (ends_method (head_of l.pieces)) _ _ (BeginNone (l ∷ ls)) (λ e.
    let read = told_from None past (InClass s) ls in
    then_listed (λ _. Unit {0}) (λ _. All BeginsNone (l ∷ ls)) (method_body sig l.number before) _ (always (Unit {0}) (method_body sig l.number before) tt) (λ b _.
    line_then (λ _. Unit {0}) (λ _. All BeginsNone (l ∷ ls)) l.number (ended (after_first (after_first l.pieces))) _ (any_ok (ended (after_first (after_first l.pieces)))) (λ _ _.
    and_told_none (Method (record { signature = sig; body = b })) (l ∷ ls) read (one_more l ls read (end_none (head_of l.pieces) e) (told_none past (InClass s) ls))))) (λ _.
    cond_both (leaves_method (head_of l.pieces)) _ _ (BeginNone (l ∷ ls)) (λ _. tt) (λ stays.
    let next = InMethod s sig (before ++ l ∷ []) in
    one_more l ls (told_from None past next ls) (inside_none (head_of l.pieces) stays) (told_none past next ls)))

-- ---- the cut

-- behind lines that count and begin no schedule, the line that begins one is found
pub cut_found : (n : ℕ) (pss : List (List Piece)) (ps : List Piece) (more : List (List Piece)) → All Counts pss → All BeginsNone (numbered n pss) → head_of ps ≡ head.Directive directive.Schedule
    → cut_at_schedule 0 (numbered n (pss ++ ps ∷ more))
    ≡ Some (record { before = numbered n pss; first = record { number = n + length pss; pieces = ps }; behind = numbered (n + length pss + 1) more })
unfolding cut_at_schedule
cut_found n [] ps more count none begins =
    let place : n + 0 ≡ n = omega arith in
    cond-true (counts 0 (head_of ps) && begins_schedule (head_of ps)) _ _ (ap (λ h. counts 0 h && begins_schedule h) begins)
    ∙ ap (λ m. Some (record { before = []; first = record { number = m; pieces = ps }; behind = numbered (m + 1) more })) (omega arith)
cut_found n (qs ∷ pss) ps more count none begins =
    let l : TextLine = record { number = n; pieces = qs } in
    let own = All-head Counts qs pss count in
    let here = All-head BeginsNone l (numbered (n + 1) pss) none in
    let behind = cut_found (n + 1) pss ps more (All-tail Counts qs pss count) (All-tail BeginsNone l (numbered (n + 1) pss) none) begins in
    cond-false (counts 0 (head_of qs) && begins_schedule (head_of qs)) _ _ (and_right (counts 0 (head_of qs)) (begins_schedule (head_of qs)) here.none)
    ∙ ap (λ d. with_line l (cut_at_schedule d (numbered (n + 1) (pss ++ ps ∷ more)))) (depth_stays (head_of qs) own.counts)
    ∙ ap (with_line l) behind
    ∙ ap (λ m. Some (record { before = l ∷ numbered (n + 1) pss; first = record { number = m; pieces = ps }; behind = numbered (m + 1) more })) (omega arith)
