use Rattle.std.proofs.Common.{take}
use Rattle.dv_defs.specs.Order.{numbers}
use Rattle.dv_hier.specs.Upwards.{HasMet}
use Rattle.dv_hier.proofs.cycles.Search.meet_all.Given as goal

abbrev pub invariant-loop-id : goal.invariant-loop-id
invariant-loop-id l =
    HasMet (numbers (take l.id-index l.ids)) l.initial.self.met.items l.initial.self.waiting.items l.self.met.items l.self.waiting.items
