use Rattle.dv_top.proofs.WorkingLemmas.{same_output}
use Rattle.dv_top.proofs.by_workers.output_stands.Goals as goal

pub returns : goal.returns
returns c main m at =
    let (T, good, stands) = c.vm.ensures.stands main m at in
    same_output c.args.run.now.verified.image T c.vm.result.now m c.args.run.now.machine c.vm.ensures.machine stands
