use Rattle.std.proofs.Common.{length, Some, ap, sym, subst, ◌∙◌}
use Rattle.dv_defs.specs.Images.{Image}
use Rattle.dv_defs.specs.Pools.{walk}
use Rattle.dv_defs.specs.LookUp.{field_declared}
use Rattle.law_linking.specs.FieldPlaces.{id_of}
use Rattle.law_linking.specs.Ordered.{IsOrdered}
use Rattle.law_linking.proofs.FieldOrder.{field_found_anywhere}
use Rattle.dv_image.proofs.FieldWalks.{found_in}
use Rattle.law_linking.proofs.OrderedImages.{image_ordered}
use Rattle.dv_image.proofs.fields.field_of.Goals as goal

pub loop-left-init : goal.loop-left-init
unfolding found_in
loop-left-init c =
    let image = c.args.image.now in
    let name = c.args.name.now in
    let ty = c.args.ty.now in
    let ordered = subst IsOrdered c.image.view_is (image_ordered _ c.image.invariant.0) in
    ap id_of (field_found_anywhere image ordered c.args.class.0 name ty) ∙
    ap (λ n. found_in image (field_declared image name ty) (walk image n (Some c.args.class.0))) (sym (c.len-left.ensures ∙ ap (λ (i : Image). length i.classes) c.image.view_is))
