use Rattle.std.proofs.Common.{◌∙◌, ap, sym}
use Rattle.std.specs.Prelude.{◌&&◌}
use Rattle.dv_words.specs.Running as words
use Rattle.dv_core.specs.Machines.{machine_of}
use Rattle.dv_sound.proofs.Going.{may_is, watchable}
use Rattle.dv_sound.proofs.moves.may_step.Goals as goal

pub returns-then-goes_on : goal.returns-then-goes_on
returns-then-goes_on c T m good at =
    c.runnable.ensures (watchable c.args.image.now T c.args.vm.now m good at) ∙
    ap (λ b. b && words.runnable c.args.image.now (machine_of c.args.vm.now) c.args.thread) (sym c.if-goes_on.true ∙ c.goes_on.ensures) ∙
    may_is c.args.image.now T c.args.vm.now m good at c.args.thread
