use Rattle.std.proofs.lemmas.Result.{on_ok_weaker}
use Rattle.dv_classread.proofs.Adding.{adds_field, nowhere_field}
use Rattle.dv_classread.proofs.program.ClassesSoFar.add_field.Goals as goal

pub returns-in-Some : goal.returns-in-Some
returns-in-Some c = on_ok_weaker c.push.result (adds_field c.args.self.now c.in-Some.class c.in-Some.is c.args.field c.push.new.self) c.push.ensures.ok

pub returns-in-None : goal.returns-in-None
returns-in-None c = nowhere_field c.args.self.now c.args.field c.in-None.is
