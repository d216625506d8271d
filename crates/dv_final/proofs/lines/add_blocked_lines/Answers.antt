use Rattle.std.proofs.Common.{◌≡◌, ◌<◌, arith, length}
use Rattle.dv_threads.specs.Kept.{threads_of}
use Rattle.dv_core.specs.Machines.{machine_of}
use Rattle.dv_core.proofs.Waits.{many_threads}
use Rattle.dv_final.specs.Final.{blocked_lines}
use Rattle.dv_final.proofs.Held.{no_more, one_more}
use Rattle.dv_final.proofs.lines.add_blocked_lines.Goals as goal

pub loop-thread-preserved : goal.loop-thread-preserved
loop-thread-preserved c w =
    let m = machine_of c.args.vm.now in
    let k = c.loop-thread.thread in
    let many = many_threads c.args.image.now c.args.vm.now w in
    let count = c.in-Ok.ensures in
    let long = c.len.ensures in
    let within : k < length (threads_of c.args.vm.now.guest.threads) = omega (arith, c.loop-thread-test.true, many, count.1, long) in
    one_more c.args.image.now m m.threads c.args.text.now.items (blocked_lines c.args.image.now m m.threads 0) c.loop-thread.text.items k c.blocked.result
    c.add_blocked_line.new.text.items within (c.blocked.ensures w) c.in_ok-add_blocked_line.ensures (c.loop-thread.invariant w)

pub returns : goal.returns
returns c w =
    let m = machine_of c.args.vm.now in
    let k = c.loop-thread.thread in
    let many = many_threads c.args.image.now c.args.vm.now w in
    let count = c.in-Ok.ensures in
    let long = c.len.ensures in
    let all : k ≡ length (threads_of c.args.vm.now.guest.threads) = omega (arith, c.loop-thread-test.false, c.loop-thread.auto.thread-end, many, count.1, long) in
    no_more c.args.image.now m m.threads c.args.text.now.items (blocked_lines c.args.image.now m m.threads 0) c.loop-thread.text.items k all (c.loop-thread.invariant w)
