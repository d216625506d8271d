use Rattle.std.specs.Prelude.{◌≡◌, IfSome, slice_get}
use Rattle.std.proofs.Common.{ap, refl, subst, sym, ◌∙◌}
use Rattle.std.proofs.lemmas.Option.{slice_get_past, slice_get_read}
use Rattle.dv_defs.specs.Images.{Image}
use Rattle.dv_defs.specs.Linked.{IsImage}
use Rattle.dv_image.proofs.Selections.{outside, nowhere, somewhere}
use Rattle.dv_image.proofs.selecting.select_numbered.Goals as goal

pub returns-in_default : goal.returns-in_default
returns-in_default c =
    let class = c.args.class.0 in
    outside c.args.image.now class c.args.number
    (ap (λ (i : Image). slice_get i.classes class) (sym c.image.view_is) ∙
    (ap (λ classes. slice_get classes class) (sym c.items.ensures) ∙ slice_get_past c.items.result.now class c.in_default.ensures.lookup.3))

pub returns-in-Some-place_of : goal.returns-in-Some-place_of
returns-in-Some-place_of c =
    let class = c.args.class.0 in
    let told = c.in-Some.ensures.lookup in
    somewhere c.args.image.now (subst IsImage c.image.view_is c.image.invariant.0) class c.args.number c.in-Some-place_of.place c.in-Some.info.now
    (ap (λ (i : Image). slice_get i.classes class) (sym c.image.view_is) ∙
    (ap (λ classes. slice_get classes class) (sym c.items.ensures) ∙ slice_get_read c.items.result.now _ class c.in-Some.info.now refl told.3.0 told.1))
    c.places_of.result.now c.places_of.ensures c.in-Some-place_of.ensures.found c.entry_at.result
    (subst (λ table. IfSome (slice_get table c.in-Some-place_of.place) (λ entry. c.entry_at.result ≡ entry)) c.items-in-Some-place_of.ensures c.entry_at.ensures)

pub returns-in-None : goal.returns-in-None
returns-in-None c =
    nowhere c.args.image.now c.args.class.0 c.args.number c.places_of.result.now c.places_of.ensures c.in-None.ensures.missing
