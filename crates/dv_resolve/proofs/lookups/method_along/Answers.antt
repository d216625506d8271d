use Rattle.std.proofs.Common.{◌≡◌, ◌≤◌, ℕ, List, Some, Option, drop, length, slice_get, refl, option_map, ap, subst, sym, ◌∙◌}
use Rattle.std.proofs.lemmas.Option.{slice_get_read}
use Rattle.dv_defs.specs.declared.names.ClassId.{ClassId}
use Rattle.dv_defs.specs.First.{first_in}
use Rattle.dv_defs.specs.LookUp.{is_method_of, method_classes}
use Rattle.dv_defs.specs.Order.{numbers}
use Rattle.dv_defs.specs.Pools.{Method}
use Rattle.dv_resolve.specs.declared.orders.Orders.{Orders}
use Rattle.dv_resolve.specs.Members.{declares, of_method}
use Rattle.dv_resolve.specs.Orders.{IsOrdersOf, place_of}
use Rattle.dv_resolve.proofs.OrderLaws.{from_first}
use Rattle.dv_resolve.proofs.Walking.{method_in_order}
use Rattle.dv_resolve.proofs.lookups.method_along.Goals as goal

pub returns : goal.returns
returns c = λ image knows within.
    let finds : ℕ → Option Method = declares image (is_method_of c.args.name.now c.args.proto.now) in
    let orders : Orders = c.in_ok-order.field-0.now in
    let from : ℕ = c.first_place-from.result in
    let at : slice_get c.args.members.now.orders.items c.args.class.0 ≡ Some orders =
    ap (λ (all : List Orders). slice_get all c.args.class.0) (sym c.deref.ensures.value) ∙ slice_get_read c.deref.result.now (length c.deref.result.now) c.args.class.0 orders refl c.in_ok-order.ensures.lookup.3.0 c.in_ok-order.ensures.lookup.1 in
    let right : IsOrdersOf image c.args.class.0 orders = knows.orders.each c.args.class.0 orders at in
    c.method_among.ensures image knows
    ∙ (ap (λ (cs : List ClassId). option_map of_method (first_in finds (numbers (drop from cs)))) c.as_slice-2.ensures.value
    ∙ (from_first of_method finds orders.methods (method_classes image c.args.class.0) c.declarers_of_method-declarers.result.now from right.methods
    (c.declarers_of_method-declarers.ensures image knows)
    (λ d there. subst (λ (ps : List ℕ). from ≤ place_of ps d) c.as_slice.ensures.value (c.first_place-from.ensures d there))
    ∙ ap (option_map of_method) (method_in_order image c.args.class.0 c.args.name.now c.args.proto.now)))
