use Rattle.std.proofs.Common.{drop}
use Rattle.dv_defs.specs.Order.{numbers}
use Rattle.dv_resolve.specs.Orders.{GoesOn, fields_through}
use Rattle.dv_resolve.proofs.orders.field_order.Given as goal

abbrev pub invariant-loop-class : goal.invariant-loop-class
invariant-loop-class l = GoesOn l.order (fields_through l.interfaces (numbers (drop l.class-index l.up))) (fields_through l.interfaces (numbers l.up))
