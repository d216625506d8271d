use Rattle.std.proofs.Common.{◌/◌, ◌%◌, ◌∷◌, [], ◌∙◌, refl, ap}
use Rattle.dv_defs.specs.Formats.{F23x}
use Rattle.dv_defs.specs.Families as family
use Rattle.dv_defs.specs.Op.{LongOp}
use Rattle.dv_defs.specs.Spelling.{few, plain}
use Rattle.dv_frames.specs.Heads.{frame}
use Rattle.dv_words.specs.Local.{word_local}
use Rattle.dv_units.specs.Tables.{standard_bin}
use Rattle.dv_local.specs.Spelled.{rest_of, unit_after}
use Rattle.dv_local.proofs.Doing.{did_one, long_op_is, same_four}
use Rattle.dv_local.proofs.Formats.{read_as, reads_23x}
use Rattle.dv_local.proofs.spelled_arithmetic.longs_23x.Goals as goal

pub returns : goal.returns
returns c =
    did_one c.args.here.now 2 (plain c.args.opcode (few (c.args.here.now.first / 256 ∷ unit_after c.args.here.now 0 % 256 ∷ unit_after c.args.here.now 0 / 256 ∷ []))) (family.LongBinary (standard_bin c.args.operation)) (LongOp (standard_bin c.args.operation) (c.args.here.now.first / 256) ((unit_after c.args.here.now 0) % 256) ((unit_after c.args.here.now 0) / 256)) _ _
    (read_as c.args.here.now c.args.opcode F23x 2 _ c.requires.opcode c.requires.format (reads_23x c.args.opcode (c.args.here.now.first / 256) (rest_of c.args.here.now)))
    c.requires.family (λ image code. long_op_is (standard_bin c.args.operation) (c.args.here.now.first / 256) ((unit_after c.args.here.now 0) % 256) ((unit_after c.args.here.now 0) / 256) c.requires.whole c.requires.unshifted) (refl)
    (c.binary_longs.ensures ∙ same_four (λ a b d n. word_local (LongOp (standard_bin c.args.operation) a b d) (frame c.args.head.now c.args.words.now) n) _ _ _ _ _ _ _ _ c.high-a.ensures (ap (λ v. v % 256) c.unit-operands.ensures) (ap (λ v. v / 256) c.unit-operands.ensures) c.after.ensures)
