use Rattle.std.proofs.Common.{◌≡◌, ◌&&◌, nat_le, nat_lt, drop, find}
use Rattle.dv_rules.proofs.catchers.covering.Given as goal

abbrev pub invariant-loop-entry : goal.invariant-loop-entry
invariant-loop-entry l =
    find (λ t. nat_le t.start l.at && nat_lt l.at t.end) l.tries ≡
    find (λ t. nat_le t.start l.at && nat_lt l.at t.end) (drop l.entry-index l.tries)
