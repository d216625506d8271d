use Rattle.std.proofs.Common.{◌≡◌, arith}
use Rattle.test_base.proofs.Numbers.{one_is_implied}
use Rattle.test_base.proofs.worklist.NumbersFlow.accelerate.Goals as goal

pub returns-then-place-eq1 : goal.returns-then-place-eq1
returns-then-place-eq1 c =
    let at : c.args.place ≡ 1 = omega (arith, c.if-place-eq1.true) in
    rw at (one_is_implied c.args._number.now c.args._by.now)
