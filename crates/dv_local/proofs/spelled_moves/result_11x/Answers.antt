use Rattle.std.proofs.Common.{◌/◌, ◌∷◌, [], ◌∙◌, refl}
use Rattle.dv_defs.specs.Formats.{F11x}
use Rattle.dv_defs.specs.Families as family
use Rattle.dv_defs.specs.Op.{result_op}
use Rattle.dv_defs.specs.Spelling.{few, plain}
use Rattle.dv_frames.specs.Heads.{frame}
use Rattle.dv_words.specs.Local.{word_local}
use Rattle.dv_units.specs.Tables.{standard_width}
use Rattle.dv_local.specs.Spelled.{rest_of}
use Rattle.dv_local.proofs.Doing.{did_one, result_local, same_two}
use Rattle.dv_local.proofs.Formats.{read_as, reads_11x}
use Rattle.dv_local.proofs.spelled_moves.result_11x.Goals as goal

pub returns : goal.returns
returns c =
    did_one c.args.here.now 1 (plain c.args.opcode (few (c.args.here.now.first / 256 ∷ []))) (family.MoveResult (standard_width c.args.width)) (result_op (standard_width c.args.width) (c.args.here.now.first / 256)) _ _
    (read_as c.args.here.now c.args.opcode F11x 1 _ c.requires.opcode c.requires.format (reads_11x c.args.opcode (c.args.here.now.first / 256) (rest_of c.args.here.now)))
    c.requires.family (λ image code. refl) (result_local (standard_width c.args.width) (c.args.here.now.first / 256))
    (c.take_result.ensures ∙ same_two (λ a n. word_local (result_op (standard_width c.args.width) a) (frame c.args.head.now c.args.words.now) n) _ _ _ _ c.high.ensures c.after.ensures)
