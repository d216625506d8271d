use Rattle.std.proofs.Common.{ap, arith, length}
use Rattle.dv_defs.specs.Images.{Image}
use Rattle.dv_sound.proofs.Premised.{code_within}
use Rattle.dv_sound.proofs.premises.strings_fit.Goals as goal

pub returns : goal.returns
returns c = λ n code k s e.
    c.loop-place.invariant n (omega (arith, code_within c.args.image.now n code e, ap (λ (i : Image). length i.methods) c.image.view_is)) code k s e
