use Rattle.dv_types.proofs.Table.{marks_more, marks_top}
use Rattle.dv_types.proofs.classes.mark.Goals as goal

pub returns-in_default : goal.returns-in_default
returns-in_default c = marks_top c.args.image.now c.args.class c.loop-left.left c.loop-left.at c.loop-left.row c.in_default.is c.loop-left.invariant

pub loop-left-preserved : goal.loop-left-preserved
loop-left-preserved c =
    marks_more c.args.image.now c.requires.hierarchy c.args.class c.loop-left.left c.in-Some.place c.loop-left.at c.parent_of-at.result c.loop-left.row
    c.loop-left-test.true c.in-Some.is c.parent_of-at.ensures c.loop-left.invariant
