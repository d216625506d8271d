use Rattle.std.proofs.Common.{◌≡◌, ℕ, Some, [], length, slice_get}
use Rattle.std.specs.Prelude.{slice_index_or}
use Rattle.dv_defs.specs.Images.{Image}
use Rattle.dv_defs.specs.LookUp.{interfaces_above, once}
use Rattle.dv_defs.specs.Order.{numbers}
use Rattle.law_linking.specs.Ordered.{IsOrdered}
use Rattle.dv_resolve.specs.declared.orders.Orders.{Orders}
use Rattle.dv_resolve.specs.Orders.{IsOrdersOf}
use Rattle.dv_resolve.proofs.orders.orders_of_all.Given as goal

abbrev pub invariant-loop-class : goal.invariant-loop-class
invariant-loop-class l = record {
  many : length l.all.items ≡ l.class;
  each : (image : Image) → image.classes ≡ l.infos → IsOrdered image
      → ((c : ℕ) → numbers (slice_index_or l.interfaces c []) ≡ once (interfaces_above image c))
      → (c : ℕ) (orders : Orders) → slice_get l.all.items c ≡ Some orders → IsOrdersOf image c orders;
}
