use Rattle.std.proofs.lemmas.Grind.{common_steps, not_there, pieces}
use Rattle.std.proofs.Common.{get_or, arith}
use Rattle.std.proofs.lemmas.Option.{slice_get-get_or}
use Rattle.dv_hier.proofs.Cells.{firsts_more}
use Rattle.dv_hier.proofs.slots.first_fields.Goals as goal

pub loop-info-preserved : goal.loop-info-preserved
loop-info-preserved c =
    let cs = c.args.infos.now in
    let i = c.loop-info.info-index in
    firsts_more cs i (get_or cs i c.info-item.result) c.loop-info.firsts.items c.push.new.self.items c.loop-info.first c.len.result
    (slice_get-get_or cs i c.info-item.result c.loop-info-test.true) c.loop-info.invariant.0 c.loop-info.invariant.1 c.in_ok-push.ensures.items
    (rw c.info-item.is at c.len.ensures)

pub returns-in_err-push : goal.returns-in_err-push
returns-in_err-push c = grind (arith, common_steps, not_there)

pub overflow_cast-first : goal.overflow_cast-first
overflow_cast-first c = grind (arith, common_steps)

pub overflow_add-first : goal.overflow_add-first
overflow_add-first c = grind (arith, common_steps)

pub returns : goal.returns
returns c = search (pieces, arith) depth 5 fits 300
