use Rattle.dv_vtable.proofs.PriorLaws.{declarers_all, declarers_more}
use Rattle.dv_vtable.proofs.priors.default_declarers.Goals as goal

pub loop-info-preserved : goal.loop-info-preserved
loop-info-preserved c =
    declarers_more c.args.infos.now c.loop-info.info-index c.info-item.result c.declares_default.result c.loop-info.declares.items c.push.new.self.items
    c.loop-info-test.true c.info-item.is c.declares_default.ensures c.loop-info.invariant c.in_ok-push.ensures.items

pub returns : goal.returns
returns c = declarers_all c.args.infos.now c.loop-info.info-index c.loop-info.declares.items c.loop-info-test.false c.loop-info.invariant
