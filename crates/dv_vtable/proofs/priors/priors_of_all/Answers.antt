use Rattle.std.proofs.Common.{arith}
use Rattle.dv_vtable.proofs.PriorLaws.{priors_more, priors_done}
use Rattle.dv_vtable.proofs.priors.priors_of_all.Goals as goal

pub loop-class-preserved : goal.loop-class-preserved
loop-class-preserved c =
    priors_more c.args.infos.now c.loop-class.class c.in_ok-priors_of.field-0.items c.of.result c.loop-class.lists.items c.push.new.self.items
    c.in_ok-priors_of.ensures c.of.ensures c.loop-class.invariant c.in_ok-push.ensures.items

pub returns : goal.returns
returns c = λ image classes. priors_done image c.args.infos.now c.loop-class.class c.loop-class.lists.items classes (omega arith) c.loop-class.invariant
