use Rattle.std.proofs.Common.{sym, ◌∙◌}
use Rattle.dv_classread.proofs.Cutting.{before_first, before_more, cut_here, cut_nowhere}
use Rattle.dv_classread.proofs.Telling.{none_left}
use Rattle.dv_classread.proofs.schedule.schedule_place.Goals as goal

pub loop-place-init : goal.loop-place-init
loop-place-init c = before_first c.args.text.now c.args.lines.now

pub returns-then-begins_schedule : goal.returns-then-begins_schedule
returns-then-begins_schedule c =
    cut_here c.args.text.now c.args.lines.now c.requires.numbered c.loop-place.at c.in-Line.place c.loop-place.invariant c.in-Line.head c.in-Line.ensures
    (sym c.begins_schedule.ensures ∙ c.if-begins_schedule.true)

pub loop-place-preserved : goal.loop-place-preserved
loop-place-preserved c =
    before_more c.args.text.now c.args.lines.now c.requires.numbered c.loop-place.at c.in-Line.place c.loop-place.invariant c.in-Line.head c.in-Line.ensures
    (sym c.begins_schedule.ensures ∙ c.if-begins_schedule.false)

pub returns-in_default : goal.returns-in_default
returns-in_default c =
    cut_nowhere c.args.text.now c.args.lines.now c.requires.numbered c.loop-place.at c.loop-place.invariant
    (none_left c.args.text.now c.args.lines.now c.loop-place.at c.next_line.result c.next_line.ensures c.in_default.not-Line)
