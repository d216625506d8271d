use Rattle.std.proofs.Common.{ap, refl, ◌∙◌}
use Rattle.std.proofs.lemmas.Option.{slice_get_read, slice_get_past}
use Rattle.law_linking.specs.FieldPlaces.{is_like, place_from}
use Rattle.dv_image.proofs.FieldSearch.{declared_at}
use Rattle.dv_image.proofs.fields.place_at.Goals as goal

pub returns-in-Some-clause-declared : goal.returns-in-Some-clause-declared
returns-in-Some-clause-declared c =
    let told = c.in-Some.ensures.lookup in
    let name = c.args.name.now in
    let ty = c.args.ty.now in
    declared_at _ c.args.image.now c.image.invariant.0 c.image.view_is c.items.result.now c.items.ensures c.args.class name ty _
    (slice_get_read c.items.result.now _ c.args.class c.in-Some.info.now refl told.3.0 told.1)
    c.place_of.result (c.place_of.ensures.place ∙ ap (λ fs. place_from (is_like name ty) fs 0) c.items-in-Some.ensures)

pub returns-in-None-clause-declared : goal.returns-in-None-clause-declared
returns-in-None-clause-declared c =
    declared_at _ c.args.image.now c.image.invariant.0 c.image.view_is c.items.result.now c.items.ensures c.args.class c.args.name.now c.args.ty.now _
    (slice_get_past c.items.result.now c.args.class c.in-None.ensures.lookup.3) _ refl
