use Rattle.std.proofs.Common.{◌≡◌, false, sym, arith}
use Rattle.dv_words.specs.Running.{runnable}
use Rattle.dv_core.specs.Machines.{machine_of}
use Rattle.dv_core.proofs.Waits.{below, many_threads, none_runs, one_runs}
use Rattle.dv_core.proofs.vm.Vm.any_runnable.Goals as goal

pub returns-then-runnable : goal.returns-then-runnable
returns-then-runnable c w = one_runs c.args.image.now (machine_of c.args.self.now) c.loop-thread.thread (sym (c.if-runnable.ensures w))

pub loop-thread-preserved : goal.loop-thread-preserved
loop-thread-preserved c w =
    below (λ j. runnable c.args.image.now (machine_of c.args.self.now) j ≡ false) c.loop-thread.thread (c.loop-thread.invariant w) (sym (c.if-runnable.ensures w))

pub returns : goal.returns
returns c w =
    none_runs c.args.image.now (machine_of c.args.self.now) (λ j less.
    let many = many_threads c.args.image.now c.args.self.now w in
    let ends = c.loop-thread-test.false in
    let count = c.in-Ok.ensures in
    let long = c.len.ensures in
    c.loop-thread.invariant w j (omega (arith, less, many, ends, count.1, long)))
