use Rattle.std.proofs.Common.{◌∙◌, ◌/◌, ℕ, Option, Ok, ap, sym}
use Rattle.std.specs.Prelude.{slice_get}
use Rattle.dv_defs.specs.Families as family
use Rattle.dv_defs.specs.Op.{StaticGet, on_pool, resolved_field}
use Rattle.dv_defs.specs.Pools.{Field}
use Rattle.dv_ops.specs.declared.op.Op.TheVariants as op
use Rattle.dv_ops.specs.Meaning.{code_of}
use Rattle.dv_units.specs.Tables.{standard_suffix}
use Rattle.dv_fetch.proofs.Formats.{spells_21c}
use Rattle.dv_fetch.proofs.accesses.static_get.Goals as goal

pub returns : goal.returns
returns c at us =
    let i = c.args.image.now in
    let code = code_of c.args.code.now in
    let k = standard_suffix c.args.suffix in
    let f = c.args.first in
    spells_21c i code at f c.args.opcode c.requires.opcode (family.StaticGet k) c.requires.family (op.StaticGet c.args.suffix (f / 256) c.in_ok-field.field) c.args.second c.requires.format us
    (ap (λ (n : ℕ). on_pool (resolved_field i (slice_get code.method.info.fields n)) (λ x. Ok (StaticGet k (f / 256) x))) (sym c.from.ensures) ∙
    ap (λ (o : Option Field). on_pool o (λ x. Ok (StaticGet k (f / 256) x))) c.in_ok-field.ensures)
