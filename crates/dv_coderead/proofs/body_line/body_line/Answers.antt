use Rattle.dv_coderead.specs.Pieces.{pieces_in}
use Rattle.dv_coderead.proofs.Opcodes.{head_named}
use Rattle.dv_coderead.proofs.body_line.body_line.Goals as goal

pub method_line-requires : goal.method_line-requires
method_line-requires c = rw c.requires.head (head_named (pieces_in c.args.pieces.now))
