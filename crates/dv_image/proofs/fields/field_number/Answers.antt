use Rattle.std.proofs.Common.{ap, ◌∙◌, length, arith}
use Rattle.dv_defs.specs.Images.{Image}
use Rattle.dv_image.proofs.FieldSearch.{number_below, fields_few}
use Rattle.dv_image.proofs.fields.field_number.Goals as goal

pub loop-high-init : goal.loop-high-init
loop-high-init c =
    record {
      from = omega arith;
      below = number_below _ c.args.image.now c.image.invariant.0 c.image.view_is c.args.class c.args.place c.len-high.result c.len-high.ensures c.requires;
      within = omega (arith, c.len-high.ensures ∙ ap (λ (i : Image). length i.fields) c.image.view_is);
    }

pub overflow_cast-result : goal.overflow_cast-result
overflow_cast-result c =
    let few = fields_few _ c.args.image.now c.image.invariant.0 c.image.view_is in
    omega (arith, few, c.loop-high.invariant.from, c.loop-high.invariant.below, c.loop-high.invariant.within)
