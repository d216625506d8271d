use Rattle.std.proofs.Common.{◌/◌, [], ◌∙◌, refl, ap}
use Rattle.dv_defs.specs.Formats.{F10x}
use Rattle.dv_defs.specs.Families as family
use Rattle.dv_defs.specs.Op.{Nop}
use Rattle.dv_defs.specs.Spelling.{few, plain}
use Rattle.dv_frames.specs.Heads.{frame}
use Rattle.dv_words.specs.Local.{word_local}
use Rattle.dv_local.specs.Spelled.{rest_of}
use Rattle.dv_local.proofs.Doing.{did_one}
use Rattle.dv_local.proofs.Formats.{read_as, reads_10x}
use Rattle.dv_local.proofs.spelled_moves.nop_10x.Goals as goal

pub returns : goal.returns
returns c =
    did_one c.args.here.now 1 (plain c.args.opcode (few [])) family.Nop Nop _ _
    (read_as c.args.here.now c.args.opcode F10x 1 _ c.requires.opcode c.requires.format (reads_10x c.args.opcode (c.args.here.now.first / 256) (rest_of c.args.here.now)))
    c.requires.family (λ image code. refl) (refl)
    (c.nop.ensures ∙ ap (λ n. word_local Nop (frame c.args.head.now c.args.words.now) n) c.after.ensures)
