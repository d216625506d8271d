use Rattle.std.proofs.Common.{◌-◌, ◌*◌, ◌++◌, take, ap, ◌∙◌}
use Rattle.std.specs.List.{flat_map}
use Rattle.dv_defs.specs.Numbers.{signed_at, low_first, elements}
use Rattle.dv_print.specs.Draft.{element_line}
use Rattle.dv_print.proofs.Steps.Lines.{element_more}
use Rattle.dv_print.proofs.items.add_elements.Goals as goal

pub loop-left-preserved : goal.loop-left-preserved
loop-left-preserved c =
    let width = c.args.width in
    let rest = c.loop-left.rest.now in
    let left = c.loop-left.left - 1 in
    let text = c.loop-left.text.items in
    let written = c.in_ok-add_element.ensures ∙ ap (λ bytes. text ++ element_line width (signed_at (8 * width) (low_first bytes))) c.cut.ensures.first in
    ap (λ xs. xs ++ flat_map (element_line width) (elements left width c.cut.result.1.now)) written ∙
    (ap (λ bytes. (text ++ element_line width (signed_at (8 * width) (low_first (take width rest)))) ++ flat_map (element_line width) (elements left width bytes)) c.cut.ensures.rest ∙
    element_more width c.loop-left.left rest _ text c.loop-left-test.true c.loop-left.invariant)
