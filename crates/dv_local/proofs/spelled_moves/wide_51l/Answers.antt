use Rattle.std.proofs.Common.{◌≡◌, ◌+◌, ◌*◌, ◌/◌, ◌^◌, ◌∷◌, [], ◌∙◌, refl, ap, arith}
use Rattle.dv_defs.specs.Formats.{F51l}
use Rattle.dv_defs.specs.Families as family
use Rattle.dv_defs.specs.Numbers.{signed_at}
use Rattle.dv_defs.specs.Op.{ConstLong}
use Rattle.dv_defs.specs.Spelling.{few, with_literal}
use Rattle.dv_frames.specs.Heads.{frame}
use Rattle.dv_words.specs.Local.{word_local}
use Rattle.dv_local.specs.Spelled.{rest_of}
use Rattle.dv_local.proofs.Doing.{did_one, same_three}
use Rattle.dv_local.proofs.Formats.{read_as, reads_51l, four}
use Rattle.std.proofs.Common.{rules, w64, SFits}
use Rattle.std.proofs.lemmas.Int.{to_z-of_z}
use Rattle.dv_local.proofs.spelled_moves.wide_51l.Goals as goal

pub returns : goal.returns
returns c =
    did_one c.args.here.now 5 (with_literal c.args.opcode (few (c.args.here.now.first / 256 ∷ [])) (signed_at 64 (four (rest_of c.args.here.now)))) family.ConstWide (ConstLong (c.args.here.now.first / 256) (signed_at 64 (four (rest_of c.args.here.now)))) _ _
    (read_as c.args.here.now c.args.opcode F51l 5 _ c.requires.opcode c.requires.format (reads_51l c.args.opcode (c.args.here.now.first / 256) (rest_of c.args.here.now)))
    c.requires.family (λ image code. refl) (refl)
    (c.set_long.ensures ∙ same_three (λ a k n. word_local (ConstLong a k) (frame c.args.head.now c.args.words.now) n) _ _ _ _ _ _ c.high.ensures ((let f : SFits w64 c.signed_quad.result = search rules in to_z-of_z w64 c.signed_quad.result f) ∙ c.signed_quad.ensures ∙ ap (signed_at 64) (let e : c.from.result * 2 ^ 32 + c.from-2.result ≡ four (rest_of c.args.here.now) = omega (arith, c.from.ensures, c.from-2.ensures, c.double.ensures, c.double-2.ensures) in e)) c.after.ensures)
