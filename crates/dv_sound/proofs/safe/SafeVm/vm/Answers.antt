use Rattle.dv_core.specs.Machines.{machine_of}
use Rattle.dv_sound.proofs.Erased.{erased}
use Rattle.dv_sound.proofs.safe.SafeVm.vm.Goals as goal

pub returns-clause-erased : goal.returns-clause-erased
returns-clause-erased c main m at =
    let s = c.engine-vm.ensures.stands main m at in
    erased c.args.self.now.verified.image s.0 (machine_of c.engine-vm.result.now) m s.2.simulated c.machine_fits.ensures
