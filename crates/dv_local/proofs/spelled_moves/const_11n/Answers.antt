use Rattle.std.proofs.Common.{◌/◌, ◌%◌, ◌∷◌, [], ◌∙◌, refl, ap}
use Rattle.dv_defs.specs.Formats.{F11n}
use Rattle.dv_defs.specs.Families as family
use Rattle.dv_defs.specs.Numbers.{signed_at}
use Rattle.dv_defs.specs.Op.{Const}
use Rattle.dv_defs.specs.Spelling.{few, with_literal}
use Rattle.dv_frames.specs.Heads.{frame}
use Rattle.dv_words.specs.Local.{word_local}
use Rattle.dv_local.specs.Spelled.{rest_of}
use Rattle.dv_local.proofs.Doing.{did_one, same_three}
use Rattle.dv_local.proofs.Formats.{read_as, reads_11n}
use Rattle.std.proofs.Common.{rules, w32, SFits}
use Rattle.std.proofs.lemmas.Int.{to_z-of_z}
use Rattle.dv_local.proofs.spelled_moves.const_11n.Goals as goal

pub returns : goal.returns
returns c =
    did_one c.args.here.now 1 (with_literal c.args.opcode (few (c.args.here.now.first / 256 % 16 ∷ [])) (signed_at 4 (c.args.here.now.first / 256 / 16))) family.Const (Const (c.args.here.now.first / 256 % 16) (signed_at 4 (c.args.here.now.first / 256 / 16))) _ _
    (read_as c.args.here.now c.args.opcode F11n 1 _ c.requires.opcode c.requires.format (reads_11n c.args.opcode (c.args.here.now.first / 256) (rest_of c.args.here.now)))
    c.requires.family (λ image code. refl) (refl)
    (c.set_int.ensures ∙ same_three (λ a k n. word_local (Const a k) (frame c.args.head.now c.args.words.now) n) _ _ _ _ _ _ c.low_nibble.ensures ((let f : SFits w32 c.signed_nibble-int.result = search rules in to_z-of_z w32 c.signed_nibble-int.result f) ∙ c.signed_nibble-int.ensures ∙ ap (signed_at 4) c.high_nibble.ensures.value) c.after.ensures)
