use Rattle.std.proofs.Common.{◌≡◌, ◌+◌}
use Rattle.dv_workers.specs.Seats.{names_of}
use Rattle.dv_workers.proofs.desk.Desk.turns_in_place.Given as goal

abbrev pub invariant-loop-turns : goal.invariant-loop-turns
invariant-loop-turns g l = (names_of l.self.vm ≡ names_of l.initial.self.vm) × (l.self.vm.lent ≡ l.initial.self.vm.lent) × (l.share.parts ≡ l.initial.share.parts) × (l.share.amount ≡ l.initial.share.amount + l.turns)
