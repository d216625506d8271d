use Rattle.std.proofs.Common.{◌≡◌, ◌++◌, map, drop}
use Rattle.dv_typing.specs.Flow.{catchers}
use Rattle.dv_rules.specs.Edges.{handler_edge}
use Rattle.dv_rules.proofs.catchers.push_catchers.Given as goal

abbrev pub invariant-loop-handler : goal.invariant-loop-handler
invariant-loop-handler l =
    l.fn.edges.items ++ map handler_edge (catchers l.body l.handlers) ≡
    l.edges.items ++ map handler_edge (catchers l.body (drop l.handler-index l.handlers))
