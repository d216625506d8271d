use Rattle.dv_top.specs.Working.{RunOrReplied}
use Rattle.dv_top.proofs.demo.run_demo.Goals as goal

pub returns-in-Ok : goal.returns-in-Ok
returns-in-Ok g c = RunOrReplied c.in-Ok.prepared c.in-Ok.ensures.ready c.in-Ok.ensures.prepared c.run_prepared.ensures
