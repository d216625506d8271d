use Rattle.std.proofs.Common.{arith}
use Rattle.dv_resolve.proofs.OrderLaws.{place_taken}
use Rattle.dv_resolve.proofs.orders.first_place.Goals as goal

pub loop-class-preserved : goal.loop-class-preserved
loop-class-preserved c =
    place_taken c.args.classes.now c.loop-class.class-index (record { 0 = 0 }) c.args.places.now c.loop-class.first c.min-first.result c.loop-class-test.true c.loop-class.invariant
    (omega (arith, c.min-first.ensures)) (omega (arith, c.min-first.ensures, c.place_in.ensures))
