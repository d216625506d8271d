use Rattle.std.proofs.Common.{◌<◌, List, length, arith, ap, subst, sym}
use Rattle.std.proofs.lemmas.Grind.{common_steps}
use Rattle.dv_defs.specs.declared.image.ClassInfo.{ClassInfo}
use Rattle.dv_resolve.specs.declared.orders.Orders.{Orders}
use Rattle.dv_resolve.specs.Orders.{AreKnown}
use Rattle.dv_resolve.proofs.OrderLaws.{orders_more}
use Rattle.dv_resolve.proofs.orders.orders_of_all.Goals as goal

pub loop-class-preserved : goal.loop-class-preserved
loop-class-preserved c = record {
  many = grind (arith, common_steps);
  each = λ image classes ordered interfaces.
      orders_more image c.loop-class.all.items c.push.new.self.items c.loop-class.class c.in_ok-orders.orders c.loop-class.invariant.many (c.loop-class.invariant.each image classes ordered interfaces)
      c.in_ok-push.ensures.items
      (c.in_ok-orders.ensures image classes ordered (subst (λ (cs : List ClassInfo). c.loop-class.class < length cs) (sym classes) c.loop-class-test.true) interfaces
      (subst (λ (all : List Orders). AreKnown image all) (sym c.deref.ensures.value) (c.loop-class.invariant.each image classes ordered interfaces)));
}

pub returns : goal.returns
returns c = λ image classes ordered interfaces. record {
  many = omega (arith, c.loop-class.invariant.many, c.loop-class-test.false, c.loop-class.auto.class-end, ap (λ (cs : List ClassInfo). length cs) classes);
  each = c.loop-class.invariant.each image classes ordered interfaces;
}
