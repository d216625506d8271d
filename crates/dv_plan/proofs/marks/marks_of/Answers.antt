use Rattle.std.proofs.Common.{List, sym, subst, length}
use Rattle.dv_plan.specs.declared.marks.Mark.{Mark}
use Rattle.dv_plan.specs.Marks.{AreMarks, LeadToHeads}
use Rattle.dv_plan.proofs.Marking.{head_keeps, lists_keep, lists_lead, heads_stay}
use Rattle.dv_plan.proofs.marks.marks_of.Goals as goal

pub returns-clause-marks : goal.returns-clause-marks
returns-clause-marks c image code clean are =
    let n = length c.args.ways.now in
    subst (λ (ms : List Mark). AreMarks image code n ms) (sym c.head.ensures)
    (head_keeps image code n c.head_handlers.new.marks.items 0
    (subst (λ (ms : List Mark). AreMarks image code n ms) (sym c.head_handlers.ensures)
    (lists_keep image code n c.mark_all.new.marks.items c.args.hops.now (c.mark_all.ensures image code clean are))))

pub returns-clause-handlers : goal.returns-clause-handlers
returns-clause-handlers c =
    subst (λ (ms : List Mark). LeadToHeads ms c.args.hops.now) (sym c.head.ensures)
    (heads_stay c.head_handlers.new.marks.items 0 c.args.hops.now
    (subst (λ (ms : List Mark). LeadToHeads ms c.args.hops.now) (sym c.head_handlers.ensures) (lists_lead c.mark_all.new.marks.items c.args.hops.now)))
