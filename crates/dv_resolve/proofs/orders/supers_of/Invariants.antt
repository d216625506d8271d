use Rattle.std.proofs.Common.{◌≡◌, ◌-◌, ◌++◌, length}
use Rattle.dv_defs.specs.Images.{Image}
use Rattle.dv_defs.specs.Order.{numbers}
use Rattle.dv_defs.specs.Pools.{class_number, supers, walk}
use Rattle.dv_resolve.proofs.orders.supers_of.Given as goal

abbrev pub invariant-loop : goal.invariant-loop
invariant-loop l =
    (image : Image) → image.classes ≡ l.infos
    → numbers l.up.items ++ walk image (length l.infos - l.counter) (class_number l.at) ≡ supers image l.fn.class.0
