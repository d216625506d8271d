use Rattle.std.proofs.Common.{◌-◌, length}
use Rattle.dv_defs.specs.Pools.{supers}
use Rattle.dv_resolve.proofs.OrderLaws.{climbed, climbs}
use Rattle.dv_resolve.proofs.orders.supers_of.Goals as goal

pub returns-in_default : goal.returns-in_default
returns-in_default c = λ image classes.
    climbed image (length c.args.infos.now - c.loop.counter) c.loop.at c.loop.up.items (supers image c.args.class.0) c.in_default.is (c.loop.invariant image classes)

pub loop-preserved : goal.loop-preserved
loop-preserved c = λ image classes.
    climbs image (length c.args.infos.now) c.loop.counter c.loop.at c.parent_of-at.result c.in-Some.id c.loop.up.items c.push.new.self.items (supers image c.args.class.0) c.loop-test.true c.in-Some.is
    c.in_ok-push.ensures.items (c.parent_of-at.ensures image classes) (c.loop.invariant image classes)
