use Rattle.std.proofs.Common.{Ok, sym, ap, subst, ◌∙◌}
use Rattle.dv_coderead.specs.Giving.{Stops}
use Rattle.dv_coderead.specs.Kept.{kept, open_behind, text_lines}
use Rattle.dv_classread.specs.Schedules.{end_with}
use Rattle.dv_classread.proofs.Going.{from_first}
use Rattle.dv_classread.proofs.text.drafts.Goals as goal

pub returns-in-Err : goal.returns-in-Err
returns-in-Err c =
    let ls = text_lines c.args.text.now c.args.lines.now in
    let first = from_first (end_with c.args.stop c.args.past (open_behind 0 ls)) c.args.past c.new-program.result (kept 0 ls) c.new-program.ensures.standing c.new-program.ensures.classes c.new-program.ensures.last in
    subst (Stops c.in-Err.error) first c.in-Err.ensures

pub returns-in_ok-into_classes-in-Ok : goal.returns-in_ok-into_classes-in-Ok
returns-in_ok-into_classes-in-Ok c =
    let ls = text_lines c.args.text.now c.args.lines.now in
    let first = from_first (end_with c.args.stop c.args.past (open_behind 0 ls)) c.args.past c.new-program.result (kept 0 ls) c.new-program.ensures.standing c.new-program.ensures.classes c.new-program.ensures.last in
    sym first ∙ (c.in-Ok.ensures ∙ ap Ok (sym c.in_ok-into_classes-in-Ok.ensures))
