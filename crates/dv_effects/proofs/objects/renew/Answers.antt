use Rattle.std.proofs.Common.{◌<◌, length, ap, arith}
use Rattle.dv_effects.specs.Renewed.{renewed}
use Rattle.dv_effects.proofs.Renewing.{one_renewed}
use Rattle.dv_effects.proofs.objects.renew.Goals as goal

pub loop-word-preserved : goal.loop-word-preserved
loop-word-preserved c =
    let within : c.loop-word.word-index < length c.args.regs.now.items = omega (arith, c.loop-word-test.true, ap length c.deref_mut-word-items.ensures.value) in
    one_renewed (renewed c.args.which c.args.by) c.args.regs.now.items c.loop-word.word-items c.loop-word.word-index c.renewed.result within
    c.loop-word.invariant c.renewed.ensures
