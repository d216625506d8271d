use Rattle.std.proofs.lemmas.Result.{on_ok_weaker}
use Rattle.dv_classread.proofs.Adding.{adds_method, nowhere_method}
use Rattle.dv_classread.proofs.program.ClassesSoFar.add_method.Goals as goal

pub returns-in-Some-clause-adds : goal.returns-in-Some-clause-adds
returns-in-Some-clause-adds c = on_ok_weaker c.push.result (adds_method c.args.self.now c.in-Some.class c.in-Some.is c.args.method c.push.new.self) c.push.ensures.ok

pub returns-in-None-clause-adds : goal.returns-in-None-clause-adds
returns-in-None-clause-adds c = nowhere_method c.args.self.now c.args.method c.in-None.is
