use Rattle.std.proofs.Common.{List, ℕ, ◌++◌, drop}
use Rattle.dv_defs.specs.Order.{numbers}
use Rattle.dv_resolve.specs.Orders.{GoesOn}
use Rattle.dv_resolve.proofs.orders.add_all.Given as goal

abbrev pub invariant-loop-class : goal.invariant-loop-class
invariant-loop-class l =
    (rest whole : List ℕ) → GoesOn l.initial.order (numbers l.classes ++ rest) whole → GoesOn l.order (numbers (drop l.class-index l.classes) ++ rest) whole
