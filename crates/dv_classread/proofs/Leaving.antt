-- Methods that are left or cut off: what is missing behind their last line is told there anyhow.
use Rattle.std.proofs.Common.{◌≡◌, ℕ, Bool, true, false, List, [], ◌∷◌, Result, Ok, Err, refl, sym, ap, ◌∙◌, arith}
use Rattle.std.specs.Prelude.{◌&&◌, nat_eq, nat_lt, if◌then◌else◌}
use Rattle.std.proofs.lemmas.Bool.{cond-false, le-ltb}
use Rattle.dv_defs.specs.Body.{BodyValue}
use Rattle.dv_draft.specs.Draft.{DraftValue}
use Rattle.dv_lex.specs.declared.line.Stop.{Stop}
use Rattle.dv_coderead.specs.declared.raw_line.RawLine.{RawLine}
use Rattle.dv_coderead.specs.declared.raw_line.RawPlace.TheVariants as place
use Rattle.dv_coderead.specs.Giving.{◌>>>◌}
use Rattle.dv_coderead.specs.Kept.{TextLine, kept, open_behind}
use Rattle.dv_coderead.specs.Bodies.{Told, draft_of, finished, is_whole, nothing_before, number_behind, told_behind, told_by}
use Rattle.dv_coderead.specs.RawBodies.{is_behind, place_behind, raw_body, raw_finished, raw_told_by}
use Rattle.dv_classread.specs.declared.class_line.Signature.{Signature}
use Rattle.dv_classread.specs.declared.method.BodyKind.{BodyKind}
use Rattle.dv_classread.specs.declared.method.BodyKind.TheVariants as of_kind
use Rattle.dv_classread.specs.Methods.{arguments_of, body_by, drafted, kind_of, method_body, method_from, raw}
use Rattle.dv_classread.specs.Texts.{EndsBefore, first_bad, left_at, missing_at}

-- a line isn't before itself
not_before : (n : ℕ) → nat_lt n n ≡ false
not_before n = le-ltb n n (omega arith)

module _ (e : Stop) where
  missing_here : (if nat_lt e.line e.line then missing_at e.line else e) ≡ e
  missing_here = cond-false (nat_lt e.line e.line) _ _ (not_before e.line)

  -- the end of a body tells nothing that is earlier
  drafted_end : (b : Bool) (d : DraftValue) → first_bad e (drafted (if b then Ok d else Err (missing_at e.line))) ≡ e
  drafted_end true d = refl
  drafted_end false d = missing_here

  raw_end : (b : Bool) (x : BodyValue) → first_bad e (raw (if b then Ok x else Err (missing_at e.line))) ≡ e
  raw_end true x = refl
  raw_end false x = missing_here

  module _ (annotations : ℕ) where
    drafted_same : (r : Result (List Told) Stop)
        → first_bad e (drafted (r >>> λ ts. finished e.line annotations (told_behind nothing_before ts) ts)) ≡ first_bad e (drafted (r >>> λ ts. finished e.line 0 (told_behind nothing_before ts) ts))
    drafted_same (Ok ts) =
        let c = told_behind nothing_before ts in
        drafted_end (is_whole c annotations) (draft_of c ts) ∙ sym (drafted_end (is_whole c 0) (draft_of c ts))
    drafted_same (Err f) = refl

    raw_same : (r : Result (List RawLine) Stop)
        → first_bad e (raw (r >>> λ ts. raw_finished e.line annotations (place_behind place.Start ts) (raw_body ts))) ≡ first_bad e (raw (r >>> λ ts. raw_finished e.line 0 (place_behind place.Start ts) (raw_body ts)))
    raw_same (Ok ts) =
        let p = place_behind place.Start ts in
        raw_end (is_behind p && nat_eq annotations 0) (raw_body ts) ∙ sym (raw_end (is_behind p && nat_eq 0 0) (raw_body ts))
    raw_same (Err f) = refl

    by_kind : (k : BodyKind) (s : Signature) (ls : List TextLine) → first_bad e (body_by k s e.line annotations ls) ≡ first_bad e (body_by k s e.line 0 ls)
    by_kind of_kind.Absent s ls = refl
    by_kind of_kind.Raw s ls = raw_same (raw_told_by place.Start ls)
    by_kind of_kind.Drafted s ls = drafted_same (told_by (arguments_of s) nothing_before ls)

-- of no lines there is no body, whatever their number
none_same : (s : Signature) (n m k : ℕ) → method_from s n m [] ≡ method_from s k 0 []
unfolding kind_of
none_same s n m k = refl

-- a method that is left with a fault on the line behind is bad where its lines are, as they stand
pub left_same : (e : Stop) (s : Signature) (ls : List TextLine) → EndsBefore e.line ls → left_at e s (kept 0 ls) ≡ Err (first_bad e (method_from s (number_behind ls) (open_behind 0 ls) (kept 0 ls)))
unfolding kept open_behind
left_same e s [] is = ap (λ r. Err (first_bad e r)) (none_same s e.line 0 (number_behind []) ∙ none_same s (number_behind []) 0 (number_behind []))
left_same e s (l ∷ ls) is =
    ap Err (sym (by_kind e (open_behind 0 (l ∷ ls)) (kind_of (kept 0 (l ∷ ls))) s (kept 0 (l ∷ ls)))
    ∙ ap (λ n. first_bad e (method_from s n (open_behind 0 (l ∷ ls)) (kept 0 (l ∷ ls)))) (sym is))

-- a method that ends before the line of this number has the body of its lines
pub body_same : (s : Signature) (n : ℕ) (ls : List TextLine) → EndsBefore n ls → open_behind 0 ls ≡ 0 → method_body s n (kept 0 ls) ≡ method_from s (number_behind ls) (open_behind 0 ls) (kept 0 ls)
unfolding kept open_behind
body_same s n [] is closed = none_same s n 0 (number_behind [])
body_same s n (l ∷ ls) is closed = ap (λ k. method_from s k 0 (kept 0 (l ∷ ls))) (sym is) ∙ ap (λ k. method_from s (number_behind (l ∷ ls)) k (kept 0 (l ∷ ls))) (sym closed)
