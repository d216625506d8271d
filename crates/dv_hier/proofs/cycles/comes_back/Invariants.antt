use Rattle.std.proofs.Common.{◌+◌, length}
use Rattle.dv_hier.specs.Upwards.{unmarked}
use Rattle.dv_hier.proofs.UpwardsLaws.{IsSearch}
use Rattle.dv_hier.proofs.cycles.comes_back.Given as goal

abbrev pub invariant-loop-id : goal.invariant-loop-id
invariant-loop-id l = IsSearch l.infos l.class l.search.met.items l.search.waiting.items

abbrev pub decreases-loop-id : goal.decreases-loop-id
decreases-loop-id l = unmarked l.search.met.items + length l.search.waiting.items
