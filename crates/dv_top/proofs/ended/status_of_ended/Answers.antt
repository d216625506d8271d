use Rattle.std.proofs.Common.{sym}
use Rattle.dv_top.proofs.ended.status_of_ended.Goals as goal

pub unreachable-requires : goal.unreachable-requires
unreachable-requires c =
    let some = c.in_default.ensures.leads in
    absurd (c.requires some.main some.machine some.at (sym (c.in_default.ensures.ending some.main some.machine some.at)))
