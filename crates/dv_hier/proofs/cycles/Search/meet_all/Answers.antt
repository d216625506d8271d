use Rattle.std.proofs.Common.{arith}
use Rattle.dv_hier.proofs.UpwardsLaws.{met_more}
use Rattle.dv_hier.proofs.cycles.Search.meet_all.Goals as goal

pub loop-id-preserved : goal.loop-id-preserved
loop-id-preserved c =
    met_more c.args.ids.now c.loop-id.id-index (record { 0 = 0 }) c.args.self.now.met.items c.args.self.now.waiting.items c.loop-id.self.met.items c.loop-id.self.waiting.items c.meet.new.self.met.items c.meet.new.self.waiting.items (omega arith) c.loop-id.invariant c.in_ok-meet.ensures
