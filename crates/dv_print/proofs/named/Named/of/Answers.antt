use Rattle.std.proofs.Common.{arith}
use Rattle.dv_print.proofs.Steps.LookUps.{named_more}
use Rattle.dv_print.proofs.named.Named.of.Goals as goal

pub loop-address-preserved : goal.loop-address-preserved
loop-address-preserved c address =
    named_more c.args.list.now c.loop-address.addresses.keys c.insert.new.self.keys c.loop-address.address-index address (omega arith) c.in_ok-insert.ensures.updates.0 c.loop-address.invariant
