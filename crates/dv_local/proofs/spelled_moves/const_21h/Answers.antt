use Rattle.std.proofs.Common.{◌*◌, ◌/◌, ◌^◌, ◌∷◌, [], ◌∙◌, refl, sym, ap}
use Rattle.dv_defs.specs.Formats.{F21h}
use Rattle.dv_defs.specs.Families as family
use Rattle.dv_defs.specs.Numbers.{signed_at}
use Rattle.dv_defs.specs.Decoding.{high_literal}
use Rattle.dv_defs.specs.Op.{Const}
use Rattle.dv_defs.specs.Spelling.{few, with_literal}
use Rattle.dv_frames.specs.Heads.{frame}
use Rattle.dv_words.specs.Local.{word_local}
use Rattle.dv_local.specs.Spelled.{rest_of, unit_after}
use Rattle.dv_local.proofs.Doing.{did_one, same_three}
use Rattle.dv_local.proofs.Formats.{read_as, reads_21h}
use Rattle.std.proofs.Common.{rules, w32, SFits}
use Rattle.std.proofs.lemmas.Int.{to_z-of_z}
use Rattle.dv_local.proofs.spelled_moves.const_21h.Goals as goal

pub returns : goal.returns
returns c =
    did_one c.args.here.now 2 (with_literal c.args.opcode (few (c.args.here.now.first / 256 ∷ [])) (high_literal c.args.opcode (unit_after c.args.here.now 0))) family.Const (Const (c.args.here.now.first / 256) (high_literal c.args.opcode (unit_after c.args.here.now 0))) _ _
    (read_as c.args.here.now c.args.opcode F21h 2 _ c.requires.opcode c.requires.format (reads_21h c.args.opcode (c.args.here.now.first / 256) (rest_of c.args.here.now)))
    c.requires.family (λ image code. refl) (refl)
    (c.set_int.ensures ∙ same_three (λ a k n. word_local (Const a k) (frame c.args.head.now c.args.words.now) n) _ _ _ _ _ _ c.high.ensures ((let f : SFits w32 c.signed_double-int.result = search rules in to_z-of_z w32 c.signed_double-int.result f) ∙ c.signed_double-int.ensures ∙ ap (λ v. signed_at 32 (v * 2 ^ 16)) (c.from.ensures ∙ c.unit.ensures) ∙ ap (λ k. high_literal k (unit_after c.args.here.now 0)) (sym c.requires.high)) c.after.ensures)
