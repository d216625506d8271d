use Rattle.dv_hier.proofs.RoundLaws.{one_unlisted, all_unlisted}
use Rattle.dv_hier.proofs.interfaces.unlisted.Goals as goal

pub loop-preserved : goal.loop-preserved
loop-preserved c =
    one_unlisted c.args.infos.now c.loop.index c.loop-item.result c.loop.lists.items c.push.new.self.items c.loop-test.true c.loop.invariant c.in_ok-push.ensures.items

pub returns : goal.returns
returns c = all_unlisted c.args.infos.now c.loop.index c.loop.lists.items c.loop-test.false c.loop.invariant
