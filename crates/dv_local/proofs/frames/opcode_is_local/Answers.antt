use Rattle.std.proofs.Common.{◌<◌, ◌∙◌, sym, ap, arith, rules}
use Rattle.dv_defs.specs.Op.{is_local}
use Rattle.dv_units.proofs.Operations.{locals_agree}
use Rattle.dv_local.proofs.Opcodes.{opcode_local}
use Rattle.dv_local.specs.Local.{is_local_opcode}
use Rattle.dv_local.proofs.frames.opcode_is_local.Goals as goal

pub returns : goal.returns
returns c image code at insn op same e =
    let few : c.args.opcode < 256 = search rules in
    let small : insn.op < 256 = omega (arith, same, few) in
    c.is_local_opcode.ensures ∙ (ap is_local_opcode (sym same) ∙ opcode_local insn.op (is_local op) small (locals_agree image code at insn op small e))
