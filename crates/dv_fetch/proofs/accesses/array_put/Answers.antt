use Rattle.std.proofs.Common.{◌%◌, ◌/◌, refl}
use Rattle.dv_defs.specs.Families as family
use Rattle.dv_ops.specs.declared.op.Op.TheVariants as op
use Rattle.dv_units.specs.Tables.{standard_suffix}
use Rattle.dv_fetch.proofs.Formats.{spells_23x}
use Rattle.dv_fetch.proofs.accesses.array_put.Goals as goal

pub returns : goal.returns
returns c image code at us =
    let f = c.args.first in
    let s = c.args.second in
    spells_23x image code at f c.args.opcode c.requires.opcode (family.ArrayPut (standard_suffix c.args.suffix)) c.requires.family (op.ArrayPut c.args.suffix (f / 256) (s % 256) (s / 256)) s c.requires.format us refl
