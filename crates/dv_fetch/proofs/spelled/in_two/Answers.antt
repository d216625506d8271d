use Rattle.std.proofs.Common.{◌∷◌, ◌+◌, refl}
use Rattle.dv_image.proofs.Reading.{read_at}
use Rattle.dv_ops.specs.Meaning.{code_of}
use Rattle.dv_fetch.proofs.Found.{in_pair, read_from}
use Rattle.dv_fetch.proofs.spelled.in_two.Goals as goal

pub returns : goal.returns
returns c =
    let image = c.args.image.now in
    let code = code_of c.args.code.now in
    let us = code.body.units in
    let same = c.units_of-units.ensures.units in
    let u = c.args.first in
    let v = c.in_ok-second.field-0.now in
    let k = c.args.at in
    let two = c.in_ok-second.ensures.lookup in
    let pair = in_pair us k (k + 1) u v c.requires refl (read_at c.units_of-units.result.now us (k + 1) v same two.0 two.1) in
    read_from image code us k (record { units = c.units_of-units.result; op = c.in_ok-op.op; next = k + 2 }) (u ∷ v ∷ pair.0) 2 pair.1 (c.in_ok-op.ensures k pair.0) same refl
