use Rattle.std.proofs.Common.{◌≡◌, ℕ}
use Rattle.std.specs.Ordering.{nat_cmp}
use Rattle.std.specs.BTreeSet.{contains}
use Rattle.dv_asm.specs.First.{any_below}
use Rattle.dv_asm.specs.Refusals.{is_payload_at}
use Rattle.dv_asm.proofs.places.Places.payload_addresses.Given as goal

abbrev pub invariant-loop-k : goal.invariant-loop-k
invariant-loop-k l = (address : ℕ) → contains nat_cmp l.payloads address ≡ any_below (is_payload_at l.self address) l.k
