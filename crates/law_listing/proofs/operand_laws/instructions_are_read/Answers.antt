use Rattle.law_listing.proofs.OperandForms.{form_told}
use Rattle.law_listing.proofs.OperandLines.{insn_line}
use Rattle.law_listing.proofs.OperandsRead.{operands_read}
use Rattle.law_listing.proofs.OpcodeNames.{name_head}
use Rattle.law_listing.specs.OperandPieces.{op_pieces}
use Rattle.law_listing.proofs.operand_laws.instructions_are_read.Goals as goal

pub returns : goal.returns
returns c op is =
    let told = form_told op.insn is.formed.form in
    let read = c.printed_references_are_read.ensures in
    record {
      line = insn_line op is;
      head = name_head op.insn.op (op_pieces op) told.small told.some;
      operands = λ frame. operands_read read.types read.fields read.methods frame op is;
    }
