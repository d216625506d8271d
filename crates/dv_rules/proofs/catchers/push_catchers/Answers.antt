use Rattle.std.proofs.Common.{arith, ◌++◌, map, drop, ◌+◌, ap, sym, ◌∙◌}
use Rattle.dv_typing.specs.Flow.{catchers}
use Rattle.dv_rules.specs.Edges.{handler_edge}
use Rattle.dv_rules.proofs.HandlerSteps.{last_caught, more_caught}
use Rattle.dv_rules.proofs.catchers.push_catchers.Goals as goal

pub loop-handler-preserved : goal.loop-handler-preserved
loop-handler-preserved c =
    let more = more_caught c.args.body.now c.args.handlers.now c.loop-handler.handler-index _ c.catches_all.result _ c.loop-handler.edges.items (omega arith) c.catches_all.ensures c.if-catches_all.false c.loop-handler.invariant in
    let rest = map handler_edge (catchers c.args.body.now (drop (c.loop-handler.handler-index + 1) c.args.handlers.now)) in
    more ∙ ap (λ xs. xs ++ rest) (sym c.in_ok-push_handler.ensures)

pub returns-then-catches_all : goal.returns-then-catches_all
returns-then-catches_all c =
    let last = last_caught c.args.body.now c.args.handlers.now c.loop-handler.handler-index _ c.catches_all.result _ c.loop-handler.edges.items (omega arith) c.catches_all.ensures c.if-catches_all.true c.loop-handler.invariant in
    c.in_ok-push_handler.ensures ∙ last
