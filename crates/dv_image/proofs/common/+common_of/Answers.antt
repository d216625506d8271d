use Rattle.std.proofs.Common.{sym, ◌∙◌}
use Rattle.dv_image.proofs.Joining.{component_step}
use Rattle.dv_image.proofs.common.+common_of.Goals as goal

pub returns-then-joins_by_component-clause-common : goal.returns-then-joins_by_component-clause-common
returns-then-joins_by_component-clause-common n c =
    component_step c.args.image.now c.args.a_dims c.args.b_dims c.args.a.now c.args.b.now c.in_ok-component.component
    (c.joins_by_component.ensures.a_dims c.if-joins_by_component.true)
    (sym c.is_same.ensures ∙ c.if-is_same.false)
    (sym c.joins_by_component.ensures.joins ∙ c.if-joins_by_component.true)
    c.in_ok-component.ensures.common
