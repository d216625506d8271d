use Rattle.std.proofs.Common.{sym, ◌∙◌}
use Rattle.dv_classread.proofs.Telling.{cut_off, ends_here, left_here, none_left, within_first, within_more}
use Rattle.dv_classread.proofs.method.method_end.Goals as goal

pub loop-place-init : goal.loop-place-init
loop-place-init c = within_first c.args.text.now c.args.lines.now c.args.from c.requires.place

pub returns-then-ends_method : goal.returns-then-ends_method
returns-then-ends_method c =
    ends_here c.args.text.now c.args.lines.now c.args.from c.requires.numbered c.loop-place.at c.in-Line.place c.loop-place.invariant c.in-Line.head c.in-Line.ensures
    (sym c.ends_method.ensures ∙ c.if-ends_method.true)

pub returns-then-leaves_method : goal.returns-then-leaves_method
returns-then-leaves_method c =
    left_here c.args.text.now c.args.lines.now c.args.from c.requires.numbered c.loop-place.at c.in-Line.place c.loop-place.invariant c.in-Line.head c.in-Line.ensures
    (sym c.ends_method.ensures ∙ c.if-ends_method.false) (sym c.leaves_method.ensures ∙ c.if-leaves_method.true)

pub loop-place-preserved : goal.loop-place-preserved
loop-place-preserved c =
    within_more c.args.text.now c.args.lines.now c.args.from c.requires.numbered c.loop-place.at c.in-Line.place c.loop-place.invariant c.in-Line.head c.in-Line.ensures
    (sym c.ends_method.ensures ∙ c.if-ends_method.false) (sym c.leaves_method.ensures ∙ c.if-leaves_method.false)

pub returns-in_default : goal.returns-in_default
returns-in_default c =
    cut_off c.args.text.now c.args.lines.now c.args.from c.requires.numbered c.loop-place.at c.loop-place.invariant
    (none_left c.args.text.now c.args.lines.now c.loop-place.at c.next_line.result c.next_line.ensures c.in_default.not-Line)
