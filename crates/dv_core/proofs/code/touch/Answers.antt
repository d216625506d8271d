use Rattle.std.proofs.Common.{refl}
use Rattle.std.specs.declared.alloc.AllocError.{AllocError}
use Rattle.dv_core.proofs.Outcomes.{touched}
use Rattle.dv_core.proofs.Seen.{past, read_there}
use Rattle.dv_core.proofs.code.touch.Goals as goal

pub returns-then-place-len : goal.returns-then-place-len
returns-then-place-len c l own h x seen at here mem are = past c.args.image.now l c.args.guest.now c.args.thread own h seen c.len.result c.len.ensures c.if-place-len.true

pub returns : goal.returns
returns c l own h x seen at here mem are =
    let i = c.args.image.now in
    let old = c.args.guest.now in
    let stack = c.index_mut.result.now in
    let there = read_there i l old c.args.thread own h seen stack stack c.index_mut.ensures.value in
    touched {E = AllocError} i l old _ c.args.thread own h x c.args.here.now stack c.operate.new.stack c.operate.new.heap c.operate.result c.operate.ensures.does refl refl there refl refl seen at here mem are
