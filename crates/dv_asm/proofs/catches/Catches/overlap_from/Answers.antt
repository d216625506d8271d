use Rattle.std.proofs.Common.{◌≡◌, ◌≤◌, ◌<◌, ℕ, Option, Some, length, ap, sym, ◌∙◌, subst}
use Rattle.std.specs.Option.{unwrap_or}
use Rattle.dv_asm.specs.First.{when}
use Rattle.dv_draft.specs.declared.draft.Catch.{Catch}
use Rattle.dv_asm.specs.Refusals.{catch_at, overlaps_earlier, try_overlap_at}
use Rattle.dv_asm.proofs.FirstLemmas.{first_line_least, first_line_some}
use Rattle.dv_asm.proofs.catches.Catches.overlap_from.Goals as goal

pub returns-then-is_least_from : goal.returns-then-is_least_from
returns-then-is_least_from c =
    let items = c.args.self.now.short.now in
    let catches = c.args.self.now.catches.now in
    let line_of : ℕ → ℕ = λ j. (catch_at catches j).line in
    let own : c.catch_at.result.now.line ≡ line_of c.args.first = ap (λ (x : Catch). x.line) c.catch_at.ensures in
    let Least : ℕ → Type 0 = λ line. (j : ℕ) → c.args.first ≤ j → j < length catches → line ≤ line_of j in
    first_line_least (overlaps_earlier items catches) line_of (length catches) c.args.first c.requires.none_before c.requires.here c.requires.within
    (subst Least own (c.is_least_from.ensures c.if-is_least_from.true)) ∙
    ap (λ (x : ℕ). Some x) (sym own)

pub returns : goal.returns
returns c =
    let items = c.args.self.now.short.now in
    let catches = c.args.self.now.catches.now in
    let own = c.catch_at.result.now.line in
    let same : own ≡ (catch_at catches c.args.first).line = ap (λ (x : Catch). x.line) c.catch_at.ensures in
    let here : try_overlap_at items catches c.args.first ≡ Some own = ap (λ b. when b (catch_at catches c.args.first).line) c.requires.here ∙ ap (λ (x : ℕ). Some x) (sym same) in
    first_line_some (try_overlap_at items catches) (length catches) c.args.first own c.unwrap_or.result here c.requires.within
    (c.unwrap_or.ensures ∙ ap (λ (x : Option ℕ). unwrap_or x own) c.try_overlap.ensures)
