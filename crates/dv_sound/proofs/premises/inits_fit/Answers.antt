use Rattle.std.proofs.Common.{ap, arith, length}
use Rattle.dv_defs.specs.Images.{Image}
use Rattle.law_machine.proofs.lemmas.Opening.Cells.{field_within}
use Rattle.dv_sound.proofs.premises.inits_fit.Goals as goal

pub returns : goal.returns
returns c = λ n x s e.
    c.loop-place.invariant n (omega (arith, field_within c.args.image.now n x e, ap (λ (i : Image). length i.fields) c.image.view_is)) x s e
