use Rattle.std.proofs.Common.{Ok, refl}
use Rattle.std.specs.declared.alloc.AllocError.{AllocError}
use Rattle.dv_words.specs.Calls as calls
use Rattle.dv_core.proofs.Seen.{is_stack, led_stack, past, read_there}
use Rattle.dv_core.proofs.code.leave_with.Goals as goal

pub returns-then-place-len : goal.returns-then-place-len
returns-then-place-len c l own h x seen at stands = past c.args.image.now l c.args.guest.now c.args.thread own h seen c.len.result c.len.ensures c.if-place-len.true

pub returns : goal.returns
returns c l own h x seen at stands =
    let i = c.args.image.now in
    let old = c.args.guest.now in
    let stack = c.index_mut.result.now in
    let there = read_there i l old c.args.thread own h seen stack stack c.index_mut.ensures.value in
    led_stack i l old c.args.thread own h seen _ refl refl {E = AllocError} (Ok c.return_value.result) (calls.return_form h c.args.reg) stack c.return_value.new.stack there refl refl
    (c.return_value.ensures h seen.image (is_stack i l old c.args.thread own h seen at.levels stack there) at.method stands)
