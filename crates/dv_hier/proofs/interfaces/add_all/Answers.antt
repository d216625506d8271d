use Rattle.std.proofs.Common.{List, ap, sym, ◌∙◌}
use Rattle.std.proofs.lemmas.List.{drop_all}
use Rattle.dv_defs.specs.Order.{numbers}
use Rattle.dv_defs.specs.declared.names.ClassId.{ClassId}
use Rattle.dv_hier.specs.Interfaces.{added}
use Rattle.dv_hier.proofs.RoundLaws.{nobody, one_added}
use Rattle.dv_hier.proofs.interfaces.add_all.Goals as goal

pub loop-id-preserved : goal.loop-id-preserved
loop-id-preserved c =
    one_added c.args.classes.now c.loop-id.id-index nobody c.loop-id.pool c.add.new.self _ c.loop-id-test.true c.in_ok-add.ensures c.loop-id.invariant

pub returns : goal.returns
returns c =
    sym (ap (λ (ds : List ClassId). added (numbers c.loop-id.pool) (numbers ds)) (drop_all c.loop-id.id-index c.args.classes.now c.loop-id-test.false)) ∙ c.loop-id.invariant
