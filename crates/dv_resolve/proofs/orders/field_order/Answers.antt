use Rattle.std.proofs.Common.{[], ◌++◌, ℕ, List, length, refl, subst, sym}
use Rattle.std.proofs.lemmas.Option.{slice_get_read}
use Rattle.dv_defs.specs.declared.names.ClassId.{ClassId}
use Rattle.dv_defs.specs.Order.{numbers}
use Rattle.dv_resolve.specs.Orders.{GoesOn, fields_through}
use Rattle.dv_resolve.proofs.OrderLaws.{taken_over}
use Rattle.dv_resolve.proofs.orders.field_order.Goals as goal

pub returns-in-Some : goal.returns-in-Some
returns-in-Some c = λ knows.
    let whole : List ℕ = fields_through c.args.interfaces.now (numbers c.args.up.now) in
    c.in_ok-add_all.ensures [] whole
    (subst (λ (ids : List ClassId). GoesOn c.loop-class.order (numbers ids ++ []) whole) (sym c.as_slice.ensures.value)
    (taken_over c.loop-class.order c.args.known.now c.args.interfaces.now c.args.up.now c.loop-class.class-index (record { 0 = 0 }) c.in-Some.rest.now whole knows c.loop-class-test.true
    (slice_get_read c.args.known.now (length c.args.known.now) _ c.in-Some.rest.now refl c.in-Some.ensures.lookup.3.0 c.in-Some.ensures.lookup.1) c.loop-class.invariant))
