use Rattle.dv_core.proofs.Seen.{is_stack, past, read_there}
use Rattle.dv_core.proofs.code.instruction_at.Goals as goal

pub returns-then-place-len : goal.returns-then-place-len
returns-then-place-len c l own h x seen at = past c.args.image.now l c.args.guest.now c.args.thread own h seen c.len.result c.len.ensures c.if-place-len.true

pub returns : goal.returns
returns c l own h x seen at =
    let i = c.args.image.now in
    let old = c.args.guest.now in
    let stack = c.index.result.now in
    let there = read_there i l old c.args.thread own h seen stack stack c.index.ensures in
    c.instruction_of.ensures own h x seen.image (is_stack i l old c.args.thread own h seen at.levels stack there) at
