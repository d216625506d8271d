use Rattle.std.proofs.Common.{[], ◌++◌, ℕ, List, subst, sym}
use Rattle.dv_defs.specs.declared.names.ClassId.{ClassId}
use Rattle.dv_defs.specs.Order.{numbers}
use Rattle.dv_resolve.specs.Orders.{GoesOn, KnowsRest, fields_through}
use Rattle.dv_resolve.proofs.OrderLaws.{both_orders, knows_rest}
use Rattle.dv_resolve.proofs.orders.orders_of.Goals as goal

pub returns : goal.returns
returns c = λ image classes ordered within interfaces known.
    let up : List ClassId = c.in_ok-up.up.items in
    let through : List ClassId → List ℕ = λ (ids : List ClassId). fields_through c.args.interfaces.now (numbers ids) in
    let rest : KnowsRest c.args.known.now c.args.interfaces.now (numbers c.deref.result.now) =
    subst (λ (ids : List ClassId). KnowsRest c.args.known.now c.args.interfaces.now (numbers ids)) (sym c.deref.ensures.value)
    (knows_rest image c.args.interfaces.now c.args.known.now (numbers up) c.args.class.0 ordered within (c.in_ok-up.ensures image classes) interfaces known) in
    both_orders image c.args.interfaces.now (numbers up) c.args.class.0 (record { fields = c.in_ok-fields.fields; methods = c.in_ok-methods.methods })
    (c.in_ok-up.ensures image classes) interfaces
    (subst (λ (ids : List ClassId). GoesOn c.in_ok-fields.fields [] (through ids)) c.deref.ensures.value (c.in_ok-fields.ensures rest))
    (subst (λ (ids : List ClassId). GoesOn c.in_ok-methods.methods [] (numbers ids ++ numbers c.in_ok-fields.fields.classes.items)) c.deref-2.ensures.value
    (subst (λ (ids : List ClassId). GoesOn c.in_ok-methods.methods [] (numbers c.deref-2.result.now ++ numbers ids)) c.deref-3.ensures.value c.in_ok-methods.ensures))
