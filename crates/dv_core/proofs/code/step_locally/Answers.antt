use Rattle.std.proofs.lemmas.Grind.{common_steps}
use Rattle.std.proofs.Common.{refl, arith}
use Rattle.dv_core.proofs.Outcomes.{local_is, local_stayed, local_went}
use Rattle.dv_core.proofs.Seen.{past, read_there}
use Rattle.dv_core.proofs.code.step_locally.Goals as goal

pub returns-then-place-len-clause-local : goal.returns-then-place-len-clause-local
returns-then-place-len-clause-local c l own h x seen at = past c.args.image.now l c.args.guest.now c.args.thread own h seen c.len.result c.len.ensures c.if-place-len.true

pub returns-clause-local : goal.returns-clause-local
returns-clause-local c l own h x seen at =
    let i = c.args.image.now in
    let old = c.args.guest.now in
    let stack = c.index_mut.result.now in
    let there = read_there i l old c.args.thread own h seen stack stack c.index_mut.ensures.value in
    local_is i l old c.args.thread own h x seen at c.step_top.result stack c.step_top.new.stack there c.step_top.ensures

pub returns-clause-does : goal.returns-clause-does
returns-clause-does c l own h x seen at keys goes =
    let i = c.args.image.now in
    let old = c.args.guest.now in
    let stack = c.index_mut.result.now in
    let there = read_there i l old c.args.thread own h seen stack stack c.index_mut.ensures.value in
    local_went i l old c.args.thread own h x seen at c.step_top.result stack c.step_top.new.stack there c.step_top.ensures _ refl refl refl refl keys goes

pub returns-clause-stays : goal.returns-clause-stays
returns-clause-stays c l own h x seen at goes =
    let i = c.args.image.now in
    let old = c.args.guest.now in
    let stack = c.index_mut.result.now in
    let there = read_there i l old c.args.thread own h seen stack stack c.index_mut.ensures.value in
    local_stayed i l old c.args.thread own h x seen at c.step_top.result stack c.step_top.new.stack there c.step_top.ensures _ refl refl refl refl goes

pub returns-then-place-len-clause-stays : goal.returns-then-place-len-clause-stays
returns-then-place-len-clause-stays c l own h x seen at = grind (arith, common_steps)
