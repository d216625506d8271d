use Rattle.std.proofs.Common.{◌∷◌, ◌+◌, refl}
use Rattle.dv_ops.specs.Meaning.{code_of}
use Rattle.dv_fetch.proofs.Found.{read_from, units_from}
use Rattle.dv_fetch.proofs.spelled.in_one.Goals as goal

pub returns : goal.returns
returns c image =
    let code = code_of c.args.code.now in
    let u = c.args.first in
    let k = c.args.at in
    let one = units_from code.body.units k u c.requires in
    read_from image code code.body.units k (record { units = c.units_of.result; op = c.in_ok-plain_op.field-0; next = k + 1 }) (u ∷ one.0) 1 one.1 (c.in_ok-plain_op.ensures image code k one.0) c.units_of.ensures.units refl
