use Rattle.std.proofs.Common.{◌∙◌, ap, sym}
use Rattle.std.specs.Prelude.{◌&&◌}
use Rattle.dv_machine.specs.Replaying.{next_is_local}
use Rattle.dv_core.specs.Machines.{machine_of}
use Rattle.law_engine.proofs.Staying.{next_is_alike}
use Rattle.dv_sound.proofs.Going.{watchable}
use Rattle.dv_sound.proofs.lending.may_lend.Goals as goal

pub returns-then-may_step : goal.returns-then-may_step
returns-then-may_step c T m good at =
    let image = c.args.image.now in
    c.next_is_local.ensures (watchable image T c.args.vm.now m good at) ∙ next_is_alike image T (machine_of c.args.vm.now) m c.args.thread at.simulated ∙
    ap (λ b. b && next_is_local image m c.args.thread) (sym c.if-may_step.true ∙ c.may_step.ensures T m good at)
