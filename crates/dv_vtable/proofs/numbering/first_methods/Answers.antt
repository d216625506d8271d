use Rattle.std.proofs.Common.{get_or}
use Rattle.std.proofs.lemmas.Option.{slice_get-get_or}
use Rattle.dv_vtable.proofs.MethodNumbers.{firsts_more}
use Rattle.dv_vtable.proofs.numbering.first_methods.Goals as goal

pub loop-info-preserved : goal.loop-info-preserved
loop-info-preserved c =
    let cs = c.args.infos.now in
    let i = c.loop-info.info-index in
    firsts_more cs i (get_or cs i c.info-item.result) c.loop-info.firsts.items c.push.new.self.items c.loop-info.first c.len.result
    (slice_get-get_or cs i c.info-item.result c.loop-info-test.true) c.loop-info.invariant.0 c.loop-info.invariant.1 c.in_ok-push.ensures.items
    (rw c.info-item.is at c.len.ensures)
