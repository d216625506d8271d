use Rattle.std.proofs.Common.{◌<ℤ◌, ◌≤◌, ◌<◌, ◌-◌, ◌+◌, ◌*◌, ℕ}
use Rattle.dv_local.specs.Switching.{DoRise, int_at}
use Rattle.dv_local.proofs.branching.key_place.Given as goal

abbrev pub invariant-loop-low : goal.invariant-loop-low
invariant-loop-low l = record {
  ordered : l.low ≤ l.high;
  within : l.high ≤ l.count;
  below : DoRise l.units l.place l.count → (k : ℕ) → k < l.low → int_at l.units (l.place + 2 * k) <ℤ l.key;
  above : DoRise l.units l.place l.count → (k : ℕ) → l.high ≤ k → k < l.count → l.key <ℤ int_at l.units (l.place + 2 * k);
}

abbrev pub decreases-loop-low : goal.decreases-loop-low
decreases-loop-low l = l.high - l.low
