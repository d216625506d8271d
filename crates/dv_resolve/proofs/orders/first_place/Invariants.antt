use Rattle.std.proofs.Common.{◌≡◌, ◌≤◌, ℕ, true, take}
use Rattle.dv_defs.specs.Order.{has_number, numbers}
use Rattle.dv_resolve.specs.Orders.{place_of}
use Rattle.dv_resolve.proofs.orders.first_place.Given as goal

abbrev pub invariant-loop-class : goal.invariant-loop-class
invariant-loop-class l = (c : ℕ) → has_number c (numbers (take l.class-index l.classes)) ≡ true → l.first ≤ place_of l.places c
