use Rattle.std.proofs.Common.{◌≡◌, ◌+◌}
use Rattle.std.specs.Prelude.{IfSome}
use Rattle.dv_workers.specs.Chores.{IsSlice}
use Rattle.dv_workers.proofs.hall.Hall.work_through.Given as goal

abbrev pub invariant-loop : goal.invariant-loop
invariant-loop g l = (l.seat.table_id ≡ l.initial.seat.table_id) × (l.seat.me ≡ l.initial.seat.me) × (l.share.parts ≡ l.initial.share.parts)
    × (l.share.amount ≡ l.initial.share.amount + l.turns) × IfSome l.slice (λ s. IsSlice l.image 256 s)
