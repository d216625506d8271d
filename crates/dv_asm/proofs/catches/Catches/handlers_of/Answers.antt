use Rattle.std.proofs.lemmas.Grind.{common_steps}
use Rattle.std.proofs.Common.{◌≡◌, map, ap, sym, ◌∙◌, arith}
use Rattle.std.specs.Borrow.{Bor}
use Rattle.std.proofs.lemmas.List.{take_all}
use Rattle.std.proofs.lemmas.Simd.{map-map}
use Rattle.dv_draft.specs.declared.draft.Catch.{Catch}
use Rattle.dv_asm.specs.Layout.{handler_of, catches_of}
use Rattle.dv_asm.specs.Ranges.{found}
use Rattle.dv_asm.proofs.catches.Catches.handlers_of.Goals as goal

pub returns-in_default : goal.returns-in_default
returns-in_default c =
    let self = c.args.self.now in
    c.new-handlers.ensures.items ∙ ap (map (handler_of self.short.now c.args.types.now)) (ap found c.in_default.ensures.value ∙ self.are_groups c.args.range)

pub returns : goal.returns
returns c =
    let self = c.args.self.now in
    let group = c.deref-catch-items.result.now in
    let same : map (λ (x : Bor Catch). x.now) group ≡ catches_of self.short.now self.catches.now c.args.range =
    ap (map (λ (x : Bor Catch). x.now)) c.deref-catch-items.ensures.value ∙ (ap found c.in-Some.ensures.value ∙ self.are_groups c.args.range) in
    let handler = handler_of self.short.now c.args.types.now in
    c.loop-catch.invariant ∙
    (ap (map (λ (x : Bor Catch). handler x.now)) (take_all c.loop-catch.catch-index group c.loop-catch-test.false) ∙
    (sym (map-map handler (λ (x : Bor Catch). x.now) group) ∙ ap (map handler) same))

pub loop-catch-preserved : goal.loop-catch-preserved
loop-catch-preserved c = grind (arith, common_steps)

pub returns-in_err-handler_of : goal.returns-in_err-handler_of
returns-in_err-handler_of c = grind (arith, common_steps)

pub returns-in_err-push : goal.returns-in_err-push
returns-in_err-push c = grind (arith, common_steps)
