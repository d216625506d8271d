use Rattle.std.proofs.Common.{◌≡◌, map, take}
use Rattle.dv_print.specs.Numbers.{label_name}
use Rattle.dv_print.proofs.drafting.labels.Given as goal

abbrev pub invariant-loop-address : goal.invariant-loop-address
invariant-loop-address l = l.labels.items ≡ map label_name (take l.address-index l.addresses)
