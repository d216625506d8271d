use Rattle.dv_ops.specs.Meaning.{code_of}
use Rattle.dv_ops.proofs.Fetched.{gives, fetches, never}
use Rattle.dv_ops.proofs.fetch.op_at.Goals as goal

pub unreachable-requires : goal.unreachable-requires
unreachable-requires c =
    let code = code_of c.args.code.now in
    let insn = c.insn_at-next.result.0 in
    let next = c.insn_at-next.result.1 in
    never c.args.image.now code c.args.at next insn c.in-Err.field-0
    (gives c.args.image.now code c.args.at next insn c.requires.clean c.requires.begins c.insn_at-next.ensures.after c.insn_at-next.ensures.tile)
    c.in-Err.ensures

pub returns-clause-fetched : goal.returns-clause-fetched
returns-clause-fetched c =
    let code = code_of c.args.code.now in
    let insn = c.insn_at-next.result.0 in
    let next = c.insn_at-next.result.1 in
    fetches c.args.image.now code c.args.at next insn c.in-Ok.op
    (gives c.args.image.now code c.args.at next insn c.requires.clean c.requires.begins c.insn_at-next.ensures.after c.insn_at-next.ensures.tile)
    c.in-Ok.ensures
