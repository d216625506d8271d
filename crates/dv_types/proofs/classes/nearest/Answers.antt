use Rattle.std.proofs.Common.{sym, ◌∙◌}
use Rattle.dv_types.proofs.Table.{nearing_on, nearing_top}
use Rattle.dv_types.proofs.classes.nearest.Goals as goal

pub returns-in_default-clause-common : goal.returns-in_default-clause-common
returns-in_default-clause-common c = nearing_top c.args.image.now c.args.class c.args.other c.loop-left.left c.loop-left.place c.loop-left.invariant c.args.above.now c.requires.above c.args.object c.requires.object c.loop-left-test.true c.if-above-place.false (sym c.parent_of.ensures ∙ c.in_default.is)

pub loop-left-preserved : goal.loop-left-preserved
loop-left-preserved c = nearing_on c.args.image.now c.args.class c.args.other c.loop-left.left c.loop-left.place c.loop-left.invariant c.args.above.now c.requires.above c.requires.hierarchy c.in-Some.parent c.loop-left-test.true c.if-above-place.false (sym c.parent_of.ensures ∙ c.in-Some.is)
