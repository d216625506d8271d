use Rattle.std.proofs.Common.{◌/◌, ◌%◌, ◌∷◌, [], ◌∙◌, refl}
use Rattle.dv_defs.specs.Formats.{F12x}
use Rattle.dv_defs.specs.Families as family
use Rattle.dv_defs.specs.Op.{IntOp, Reg}
use Rattle.dv_defs.specs.Spelling.{few, plain}
use Rattle.dv_frames.specs.Heads.{frame}
use Rattle.dv_words.specs.Local.{word_local}
use Rattle.dv_units.specs.Tables.{standard_bin}
use Rattle.dv_local.specs.Spelled.{rest_of}
use Rattle.dv_local.proofs.Doing.{did_one, int_op_is, same_three}
use Rattle.dv_local.proofs.Formats.{read_as, reads_12x}
use Rattle.dv_local.proofs.spelled_arithmetic.ints_12x.Goals as goal

pub returns : goal.returns
returns c =
    did_one c.args.here.now 1 (plain c.args.opcode (few (c.args.here.now.first / 256 % 16 ∷ c.args.here.now.first / 256 / 16 ∷ []))) (family.IntTwo (standard_bin c.args.operation)) (IntOp (standard_bin c.args.operation) (c.args.here.now.first / 256 % 16) (c.args.here.now.first / 256 % 16) (Reg (c.args.here.now.first / 256 / 16))) _ _
    (read_as c.args.here.now c.args.opcode F12x 1 _ c.requires.opcode c.requires.format (reads_12x c.args.opcode (c.args.here.now.first / 256) (rest_of c.args.here.now)))
    c.requires.family (λ image code. int_op_is (standard_bin c.args.operation) (c.args.here.now.first / 256 % 16) (c.args.here.now.first / 256 % 16) (Reg (c.args.here.now.first / 256 / 16)) c.requires.whole) (refl)
    (c.binary_ints.ensures ∙ same_three (λ a d n. word_local (IntOp (standard_bin c.args.operation) a a (Reg d)) (frame c.args.head.now c.args.words.now) n) _ _ _ _ _ _ c.low_nibble-a.ensures c.high_nibble-b.ensures.value c.after.ensures)
