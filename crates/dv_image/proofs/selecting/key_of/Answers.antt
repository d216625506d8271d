use Rattle.std.specs.Prelude.{length, slice_get}
use Rattle.std.proofs.Common.{arith, ap, refl, sym, ◌∙◌}
use Rattle.std.proofs.lemmas.Option.{slice_get_past, slice_get_read}
use Rattle.dv_defs.specs.Images.{Image}
use Rattle.dv_image.proofs.Selections.{keyed, unkeyed}
use Rattle.dv_image.proofs.selecting.key_of.Goals as goal

pub returns-then-method-len : goal.returns-then-method-len
returns-then-method-len c =
    unkeyed c.args.image.now c.args.method.0 (omega (arith, c.len.ensures, ap (λ (i : Image). length i.methods) c.image.view_is))

pub returns-in-Some : goal.returns-in-Some
returns-in-Some c =
    let method = c.args.method.0 in
    let told = c.in-Some.ensures.lookup in
    keyed _ _ c.args.image.now c.image.invariant.0 c.image.invariant.1.keys_are c.image.view_is method
    (omega (arith, c.len.ensures, ap (λ (i : Image). length i.methods) c.image.view_is)) _
    (ap (λ keys. slice_get keys method) (sym c.items.ensures) ∙ slice_get_read c.items.result.now _ method c.in-Some.number.now refl told.3.0 told.1)

pub returns-in-None : goal.returns-in-None
returns-in-None c =
    let method = c.args.method.0 in
    keyed _ _ c.args.image.now c.image.invariant.0 c.image.invariant.1.keys_are c.image.view_is method
    (omega (arith, c.len.ensures, ap (λ (i : Image). length i.methods) c.image.view_is)) _
    (ap (λ keys. slice_get keys method) (sym c.items.ensures) ∙ slice_get_past c.items.result.now method c.in-None.ensures.lookup.3)
