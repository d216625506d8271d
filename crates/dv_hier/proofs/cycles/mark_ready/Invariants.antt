use Rattle.dv_hier.specs.Upwards.{unmarked}
use Rattle.dv_hier.proofs.UpwardsLaws.{IsRound}
use Rattle.dv_hier.proofs.cycles.mark_ready.Given as goal

abbrev pub invariant-loop-i : goal.invariant-loop-i
invariant-loop-i l = IsRound l.infos (unmarked l.initial.done) l.done l.changed l.i
