use Rattle.dv_hier.proofs.AncestorLaws.{rows_more, rows_are}
use Rattle.dv_hier.proofs.ancestors.ancestors_of_all.Goals as goal

pub loop-class-preserved : goal.loop-class-preserved
loop-class-preserved c =
    rows_more c.args.infos.now c.loop-class.rows.items c.push.new.self.items c.in_ok-ancestors_of.field-0 c.loop-class.class c.loop-class.invariant
    c.in_ok-ancestors_of.ensures c.in_ok-push.ensures.items

pub returns : goal.returns
returns c = rows_are c.args.infos.now c.loop-class.rows.items c.loop-class.class c.loop-class-test.false c.loop-class.invariant
