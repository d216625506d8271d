use Rattle.std.proofs.Common.{◌≡◌, ℕ, map, take, position}
use Rattle.std.specs.Ordering.{nat_cmp}
use Rattle.std.specs.BTreeMap.{get}
use Rattle.dv_asm.specs.Places.{address_named_by}
use Rattle.dv_asm.specs.Refusals.{is_address}
use Rattle.dv_asm.proofs.places.Places.first_switches.Given as goal

abbrev pub invariant-loop-k : goal.invariant-loop-k
invariant-loop-k l = (address : ℕ) → get nat_cmp l.switches address ≡ position (is_address address) (map (address_named_by l.self) (take l.k l.self))
