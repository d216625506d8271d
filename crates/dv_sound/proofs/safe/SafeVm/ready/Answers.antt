use Rattle.std.proofs.Common.{◌≡◌, subst, arith}
use Rattle.std.specs.Prelude.{length}
use Rattle.dv_sound.proofs.Ready.{NoneBelow, is_lowest, none_first, none_next, none_ready}
use Rattle.dv_sound.proofs.safe.SafeVm.ready.Goals as goal

pub loop-thread-init : goal.loop-thread-init
loop-thread-init c main m at = none_first c.args.self.now m

pub returns-then-is_ready : goal.returns-then-is_ready
returns-then-is_ready c main m at = is_lowest c.args.self.now m c.loop-thread.thread (c.loop-thread.invariant main m at) (c.is_ready.ensures.ready main m at c.if-is_ready.true)

pub loop-thread-preserved : goal.loop-thread-preserved
loop-thread-preserved c main m at = none_next c.args.self.now m c.loop-thread.thread (c.loop-thread.invariant main m at) (c.is_ready.ensures.held main m at c.if-is_ready.false)

pub returns : goal.returns
returns c main m at =
    let all : c.loop-thread.thread ≡ length m.threads = (let n = c.threads-thread-end.ensures main m at in omega (arith, n, c.loop-thread-test.false, c.loop-thread.auto.thread-end)) in
    none_ready c.args.self.now m (subst (NoneBelow c.args.self.now m) all (c.loop-thread.invariant main m at))
