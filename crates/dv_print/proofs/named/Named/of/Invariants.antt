use Rattle.std.proofs.Common.{◌≡◌, ℕ, take}
use Rattle.dv_print.specs.Named.{is_label_address}
use Rattle.dv_print.proofs.named.Named.of.Given as goal

abbrev pub invariant-loop-address : goal.invariant-loop-address
invariant-loop-address l = (address : ℕ) → is_label_address l.addresses.keys address ≡ is_label_address (take l.address-index l.list) address
