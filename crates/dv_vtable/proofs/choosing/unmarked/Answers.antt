use Rattle.std.proofs.Common.{◌∷◌, ◌∙◌}
use Rattle.dv_defs.specs.declared.image.Select.TheVariants as select
use Rattle.dv_vtable.specs.Choosing.{also_all}
use Rattle.dv_vtable.proofs.ChoosingLaws.{also_end, also_only}
use Rattle.dv_vtable.proofs.choosing.unmarked.Goals as goal

pub returns : goal.returns
returns c = λ image of.
    let first = c.args.offer.first in
    let ids = c.args.offer.others.now in
    also_end image c.args.marks.now c.loop-method.select (also_all image c.args.marks.now select.Abstract (first ∷ ids)) ids c.loop-method.method-index
    c.loop-method-test.false (c.loop-method.invariant image of)
    ∙ also_only image c.args.marks.now (first ∷ ids)
