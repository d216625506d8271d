use Rattle.std.proofs.Common.{ap, ◌∙◌}
use Rattle.dv_defs.specs.Order.{numbers}
use Rattle.dv_hier.specs.Interfaces.{added}
use Rattle.dv_hier.proofs.RoundLaws.{nobody, one_listed}
use Rattle.dv_hier.proofs.interfaces.list_above.Goals as goal

pub loop-id-preserved : goal.loop-id-preserved
loop-id-preserved c =
    one_listed c.args.lists.now c.args.interfaces.now c.loop-id.id-index nobody c.loop-id.pool c.add.new.self (numbers c.add_all.new.pool) _ c.loop-id-test.true
    c.in_ok-add.ensures (c.in_ok-add_all.ensures ∙ ap (added (numbers c.add.new.self)) c.list_at.ensures) c.loop-id.invariant
