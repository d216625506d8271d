use Rattle.std.proofs.Common.{◌≡◌, ◌+◌, ◌≤◌}
use Rattle.dv_workers.specs.Seats.{names_of}
use Rattle.dv_workers.proofs.desk.Desk.advance.Given as goal

abbrev pub invariant-loop-done : goal.invariant-loop-done
invariant-loop-done g l = (names_of l.self.vm ≡ names_of l.initial.self.vm) × (l.share.parts ≡ l.initial.share.parts) × (l.share.amount ≡ l.initial.share.amount + l.turns) × (l.turns ≤ l.done)
