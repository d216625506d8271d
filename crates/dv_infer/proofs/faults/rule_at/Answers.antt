use Rattle.dv_typing.specs.Statics.{fetch}
use Rattle.dv_ops.specs.Meaning.{code_of}
use Rattle.dv_infer.proofs.Faulting.{no_demand_at}
use Rattle.dv_infer.proofs.faults.rule_at.Goals as goal

pub returns-in-None : goal.returns-in-None
returns-in-None c =
    no_demand_at c.args.image.now (code_of c.args.code.now) (fetch c.args.image.now c.args.code.now.method.id.0 c.args.at) c.args.state.now c.in-None.is
