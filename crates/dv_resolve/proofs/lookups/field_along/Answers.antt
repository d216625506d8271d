use Rattle.std.proofs.Common.{◌≡◌, ◌≤◌, ◌∷◌, ℕ, List, Some, Option, drop, length, flat_map, slice_get, refl, option_map, ap, subst, sym, ◌∙◌}
use Rattle.std.proofs.lemmas.Option.{slice_get_read}
use Rattle.dv_defs.specs.declared.names.ClassId.{ClassId}
use Rattle.dv_defs.specs.First.{first_in}
use Rattle.dv_defs.specs.LookUp.{field_declared, interfaces_above, once}
use Rattle.dv_defs.specs.Order.{numbers}
use Rattle.dv_defs.specs.Pools.{Field, supers}
use Rattle.law_linking.proofs.FieldOrder.{field_found_along}
use Rattle.dv_resolve.specs.declared.orders.Orders.{Orders}
use Rattle.dv_resolve.specs.Members.{of_field}
use Rattle.dv_resolve.specs.Orders.{IsOrdersOf, place_of}
use Rattle.dv_resolve.proofs.OrderLaws.{from_first}
use Rattle.dv_resolve.proofs.lookups.field_along.Goals as goal

pub returns : goal.returns
returns c = λ image knows within.
    let finds : ℕ → Option Field = field_declared image c.args.name.now c.args.ty.now in
    let orders : Orders = c.in_ok-order.field-0.now in
    let from : ℕ = c.first_place-from.result in
    let at : slice_get c.args.members.now.orders.items c.args.class.0 ≡ Some orders =
    ap (λ (all : List Orders). slice_get all c.args.class.0) (sym c.deref.ensures.value) ∙ slice_get_read c.deref.result.now (length c.deref.result.now) c.args.class.0 orders refl c.in_ok-order.ensures.lookup.3.0 c.in_ok-order.ensures.lookup.1 in
    let right : IsOrdersOf image c.args.class.0 orders = knows.orders.each c.args.class.0 orders at in
    c.field_among.ensures image knows
    ∙ (ap (λ (cs : List ClassId). option_map of_field (first_in finds (numbers (drop from cs)))) c.as_slice-2.ensures.value
    ∙ (from_first of_field finds orders.fields (flat_map (λ d. d ∷ once (interfaces_above image d)) (supers image c.args.class.0)) c.declarers_of_field-declarers.result.now from right.fields
    (c.declarers_of_field-declarers.ensures image knows)
    (λ d there. subst (λ (ps : List ℕ). from ≤ place_of ps d) c.as_slice.ensures.value (c.first_place-from.ensures d there))
    ∙ ap (option_map of_field) (sym (field_found_along image knows.ordered c.args.class.0 within c.args.name.now c.args.ty.now))))
