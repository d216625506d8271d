use Rattle.std.proofs.Common.{refl, ap, sym, ◌∙◌}
use Rattle.std.specs.Prelude.{slice_get}
use Rattle.std.proofs.lemmas.Option.{slice_get_read, slice_get_past}
use Rattle.dv_defs.specs.First.{first_in}
use Rattle.dv_defs.specs.Order.{numbers}
use Rattle.dv_defs.specs.LookUp.{field_declared}
use Rattle.law_linking.specs.FieldPlaces.{id_of}
use Rattle.dv_image.proofs.IndexLaws.{listed}
use Rattle.dv_image.proofs.fields.interface_field.Goals as goal

pub returns-in-Some : goal.returns-in-Some
returns-in-Some c =
    let class = c.args.class in
    let found = field_declared c.args.image.now c.args.name.now c.args.ty.now in
    let told = c.in-Some.ensures.lookup in
    let at = ap (λ xs. slice_get xs class) (sym c.items.ensures) ∙ slice_get_read c.items.result.now _ class c.in-Some.interfaces.now refl told.3.0 told.1 in
    c.first_field.ensures ∙
    (ap (λ ids. id_of (first_in found (numbers ids))) c.items-in-Some.ensures ∙
    ap (λ cs. id_of (first_in found cs)) (listed _ _ _ c.image.invariant.1.interfaces_are c.image.view_is class _ at))

pub returns-in-None : goal.returns-in-None
returns-in-None c =
    let class = c.args.class in
    let found = field_declared c.args.image.now c.args.name.now c.args.ty.now in
    let told = c.in-None.ensures.lookup in
    let at = ap (λ xs. slice_get xs class) (sym c.items.ensures) ∙ slice_get_past c.items.result.now class told.3 in
    ap (λ cs. id_of (first_in found cs)) (listed _ _ _ c.image.invariant.1.interfaces_are c.image.view_is class _ at)
