-- Where parts of numbered lines end.
use Rattle.std.proofs.Common.{◌≡◌, ℕ, ◌+◌, ◌-◌, ◌≤◌, List, [], ◌∷◌, length, take, drop, slice_range, Option, Some, None, sym, ap, subst, ◌∙◌, arith}
use Rattle.std.specs.Prelude.{IfSome}
use Rattle.std.proofs.lemmas.List.{length-drop, length-take-le}
use Rattle.dv_lex.specs.declared.line.Line.{Line}
use Rattle.dv_lex.specs.declared.line.Stop.{Stop}
use Rattle.dv_coderead.specs.Kept.{text_lines, AreNumbered}
use Rattle.dv_classread.specs.Texts.{EndsBefore}
use Rattle.dv_coderead.proofs.Numbered.{back_numbered, behind_is, front_numbered}

-- ---- lines from the first on

pub ends_before : (text : List ℕ) (n : ℕ) (ls : List Line) → AreNumbered n ls → EndsBefore (n + length ls) (text_lines text ls)
ends_before text n [] are = tt
ends_before text n (l ∷ ls) are = behind_is text n l ls are

-- the bad line is the one behind the good ones
pub stop_before : (text : List ℕ) (stop : Option Stop) (ls : List Line) → AreNumbered 1 ls → IfSome stop (λ (e : Stop). e.line ≡ 1 + length ls) → IfSome stop (λ (e : Stop). EndsBefore e.line (text_lines text ls))
stop_before text None ls are is = tt
stop_before text (Some e) ls are is = subst (λ n. EndsBefore n (text_lines text ls)) (sym is) (ends_before text 1 ls are)

-- the first lines end before the line of the next number
pub ends_front : (text : List ℕ) (ls : List Line) → AreNumbered 1 ls → (at : ℕ) → at ≤ length ls → EndsBefore (1 + at) (text_lines text (take at ls))
ends_front text ls are at within =
    subst (λ n. EndsBefore (1 + n) (text_lines text (take at ls))) (length-take-le at ls within) (ends_before text 1 (take at ls) (front_numbered 1 at ls are))

-- ---- lines from a place on

pub ends_at : (text : List ℕ) (ls : List Line) → AreNumbered 1 ls → (from at : ℕ) → from ≤ at → at ≤ length ls → EndsBefore (1 + at) (text_lines text (slice_range ls from at))
ends_at text ls are from at le within =
    let size : length (slice_range ls from at) ≡ at - from = length-take-le (at - from) (drop from ls) (omega (arith, length-drop from ls, le, within)) ∙ omega arith in
    let ends = ends_before text (1 + from) (slice_range ls from at) (front_numbered (1 + from) (at - from) (drop from ls) (back_numbered 1 from ls are)) in
    subst (λ n. EndsBefore n (text_lines text (slice_range ls from at))) (ap (λ n. (1 + from) + n) size ∙ omega (arith, le)) ends

-- the last lines end where all do
pub ends_behind : (text : List ℕ) (n from : ℕ) (ls : List Line) → AreNumbered 1 ls → from ≤ length ls → EndsBefore n (text_lines text ls) → EndsBefore n (text_lines text (slice_range ls from (length ls)))
ends_behind text n from [] are le ends =
    let first : 0 ≡ from = omega (arith, le) in
    subst (λ k. EndsBefore n (text_lines text (slice_range [] k 0))) first tt
ends_behind text n from (l ∷ ls) are le ends =
    subst (λ m. EndsBefore m (text_lines text (slice_range (l ∷ ls) from (length (l ∷ ls))))) (sym (behind_is text 1 l ls are) ∙ ends) (ends_at text (l ∷ ls) are from (length (l ∷ ls)) le (omega arith))
