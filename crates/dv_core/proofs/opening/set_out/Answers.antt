use Rattle.std.proofs.Common.{◌<◌, length, arith, ap, ◌∙◌}
use Rattle.dv_defs.specs.Images.{Image}
use Rattle.dv_core.proofs.Began.{out_on}
use Rattle.dv_core.proofs.opening.set_out.Goals as goal

pub loop-place-preserved : goal.loop-place-preserved
loop-place-preserved c =
    let within : c.loop-place.place < length c.args.image.now.fields = omega (arith, c.loop-place-test.true, c.len-place-end.ensures, ap (λ (i : Image). length i.fields) c.image.view_is) in
    out_on c.args.image.now c.args.image.now.fields c.loop-place.place c.field_id.result.0 c.loop-place.heap c.set_out_of.new.heap within c.field_id.ensures c.set_out_of.ensures ∙
    c.loop-place.invariant
