use Rattle.std.proofs.Common.{ap, ◌∙◌}
use Rattle.dv_defs.specs.Images.{Image}
use Rattle.dv_heap.proofs.FieldWords.{statics_on}
use Rattle.dv_heap.proofs.statics.first_statics.Goals as goal

pub loop-info-preserved : goal.loop-info-preserved
loop-info-preserved c =
    statics_on c.args.image.now c.items-info-items.result.now c.loop-info.info-index _ _ c.loop-info.statics c.add_field.new.statics (c.items-info-items.ensures ∙ ap (λ (i : Image). i.fields) c.image.view_is) c.loop-info-test.true c.declared_as.ensures c.in_ok-add_field.ensures c.loop-info.invariant
