use Rattle.dv_draft.proofs.KeyLemmas.{pools_more}
use Rattle.dv_draft.proofs.pools.Pools.of.Goals as goal

pub loop-item-preserved : goal.loop-item-preserved
loop-item-preserved c =
    pools_more c.args.items.now c.loop-item.item-index c.item-item.result c.loop-item.pools _ _ c.loop-item-test.true c.item-item.is c.in-Ok.ensures c.loop-item.invariant
