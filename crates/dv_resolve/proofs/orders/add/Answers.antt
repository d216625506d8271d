use Rattle.std.proofs.Common.{◌≡◌, List, ℕ, true, false, refl, subst, sym, ◌∙◌}
use Rattle.std.specs.Vec.{with_items}
use Rattle.std.proofs.lemmas.List.{with_items_is}
use Rattle.dv_resolve.specs.Orders.{IsNoted}
use Rattle.dv_resolve.proofs.OrderLaws.{noted_length, one_more, there_already}
use Rattle.dv_resolve.proofs.orders.add.Goals as goal

pub returns-in_ok-push : goal.returns-in_ok-push
returns-in_ok-push c = λ rest whole before.
    let old : List ℕ = c.args.order.now.places.items in
    let class : ℕ = c.args.class.0 in
    let told : IsNoted c.deref_mut.result.now c.note.new.places class c.len-place.result true = c.if-note.ensures in
    let noted : IsNoted old c.note.new.places class c.len-place.result true =
    subst (λ (ps : List ℕ). IsNoted ps c.note.new.places class c.len-place.result true) c.deref_mut.ensures.value told in
    let kept : (with_items c.args.order.now.places c.note.new.places).items ≡ c.note.new.places =
    with_items_is c.args.order.now.places c.note.new.places (noted_length old c.note.new.places class c.len-place.result true noted ∙ sym c.args.order.now.places.ok.0) in
    one_more c.args.order.now (record { classes = c.push.new.self; places = with_items c.args.order.now.places c.note.new.places }) c.args.class c.len-place.result rest whole before
    c.in_ok-push.ensures.items (c.len-place.ensures ∙ c.args.order.now.classes.ok.0)
    (subst (λ (ps : List ℕ). IsNoted old ps class c.len-place.result true) (sym kept) noted)

pub returns-else-note : goal.returns-else-note
returns-else-note c = λ rest whole before.
    let old : List ℕ = c.args.order.now.places.items in
    let class : ℕ = c.args.class.0 in
    let told : IsNoted c.deref_mut.result.now c.note.new.places class c.len-place.result false = c.if-note.ensures in
    let noted : IsNoted old c.note.new.places class c.len-place.result false =
    subst (λ (ps : List ℕ). IsNoted ps c.note.new.places class c.len-place.result false) c.deref_mut.ensures.value told in
    let kept : (with_items c.args.order.now.places c.note.new.places).items ≡ c.note.new.places =
    with_items_is c.args.order.now.places c.note.new.places (noted_length old c.note.new.places class c.len-place.result false noted ∙ sym c.args.order.now.places.ok.0) in
    there_already c.args.order.now (record { classes = c.args.order.now.classes; places = with_items c.args.order.now.places c.note.new.places }) c.args.class c.len-place.result rest whole before
    refl (subst (λ (ps : List ℕ). IsNoted old ps class c.len-place.result false) (sym kept) noted)
