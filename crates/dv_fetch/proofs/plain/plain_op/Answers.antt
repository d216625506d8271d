use Rattle.std.proofs.Common.{◌%◌, ◌/◌, refl}
use Rattle.dv_defs.specs.Families as family
use Rattle.dv_defs.specs.Formats.{format_at}
use Rattle.dv_defs.specs.Parts.{Width}
use Rattle.dv_optable.specs.declared.family.Width.TheVariants as width
use Rattle.dv_ops.specs.declared.op.Op.TheVariants as op
use Rattle.dv_fetch.proofs.Formats.{spells_10x, spells_11x, spells_12x}
use Rattle.dv_fetch.proofs.plain.plain_op.Goals as goal

pub returns-in-14 : goal.returns-in-14
unfolding format_at
returns-in-14 c image code at us = spells_10x image code at c.args.first 14 c.in-14.is family.ReturnVoid refl op.ReturnVoid refl us refl

pub returns-in-15 : goal.returns-in-15
unfolding format_at
returns-in-15 c image code at us = spells_11x image code at c.args.first 15 c.in-15.is (family.Return Width.Narrow) refl (op.Return width.Narrow (c.args.first / 256)) refl us refl

pub returns-in-16 : goal.returns-in-16
unfolding format_at
returns-in-16 c image code at us = spells_11x image code at c.args.first 16 c.in-16.is (family.Return Width.Wide) refl (op.Return width.Wide (c.args.first / 256)) refl us refl

pub returns-in-17 : goal.returns-in-17
unfolding format_at
returns-in-17 c image code at us = spells_11x image code at c.args.first 17 c.in-17.is (family.Return Width.Reference) refl (op.Return width.Reference (c.args.first / 256)) refl us refl

pub returns-in-29 : goal.returns-in-29
unfolding format_at
returns-in-29 c image code at us = spells_11x image code at c.args.first 29 c.in-29.is family.MonitorEnter refl (op.Enter (c.args.first / 256)) refl us refl

pub returns-in-30 : goal.returns-in-30
unfolding format_at
returns-in-30 c image code at us = spells_11x image code at c.args.first 30 c.in-30.is family.MonitorExit refl (op.Exit (c.args.first / 256)) refl us refl

pub returns-in-33 : goal.returns-in-33
unfolding format_at
returns-in-33 c image code at us = spells_12x image code at c.args.first 33 c.in-33.is family.ArrayLength refl (op.ArrayLength (c.args.first / 256 % 16) (c.args.first / 256 / 16)) refl us refl

pub returns-in-39 : goal.returns-in-39
unfolding format_at
returns-in-39 c image code at us = spells_11x image code at c.args.first 39 c.in-39.is family.Throw refl (op.Throw (c.args.first / 256)) refl us refl
