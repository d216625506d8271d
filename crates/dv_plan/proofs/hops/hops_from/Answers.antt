use Rattle.std.proofs.Common.{◌∙◌}
use Rattle.dv_typing.specs.Flow.{catchers}
use Rattle.dv_plan.proofs.Hopping.{of_handlers}
use Rattle.dv_plan.proofs.hops.hops_from.Goals as goal

pub hops_along-requires : goal.hops_along-requires
hops_along-requires c = of_handlers (catchers c.args.body.now c.args.entry.now.handlers) c.as_slice.result.now (c.as_slice.ensures.value ∙ c.in_ok-edges.ensures)
