use Rattle.std.proofs.Common.{◌/◌, ◌%◌, ◌∷◌, [], ◌∙◌, refl, ap}
use Rattle.dv_defs.specs.Formats.{F22s}
use Rattle.dv_defs.specs.Families as family
use Rattle.dv_defs.specs.Numbers.{signed_at}
use Rattle.dv_defs.specs.Op.{IntOp, Lit}
use Rattle.dv_defs.specs.Spelling.{few, with_literal}
use Rattle.dv_frames.specs.Heads.{frame}
use Rattle.dv_words.specs.Local.{word_local}
use Rattle.dv_units.specs.Tables.{standard_bin}
use Rattle.dv_local.specs.Spelled.{rest_of, unit_after}
use Rattle.dv_local.proofs.Doing.{did_one, int_op_is, same_four}
use Rattle.dv_local.proofs.Formats.{read_as, reads_22s}
use Rattle.std.proofs.Common.{rules, w32, SFits}
use Rattle.std.proofs.lemmas.Int.{to_z-of_z}
use Rattle.dv_local.proofs.spelled_arithmetic.ints_22s.Goals as goal

pub returns : goal.returns
returns c =
    did_one c.args.here.now 2 (with_literal c.args.opcode (few (c.args.here.now.first / 256 % 16 ∷ c.args.here.now.first / 256 / 16 ∷ [])) (signed_at 16 (unit_after c.args.here.now 0))) (family.IntLiteral (standard_bin c.args.operation)) (IntOp (standard_bin c.args.operation) (c.args.here.now.first / 256 % 16) (c.args.here.now.first / 256 / 16) (Lit (signed_at 16 (unit_after c.args.here.now 0)))) _ _
    (read_as c.args.here.now c.args.opcode F22s 2 _ c.requires.opcode c.requires.format (reads_22s c.args.opcode (c.args.here.now.first / 256) (rest_of c.args.here.now)))
    c.requires.family (λ image code. int_op_is (standard_bin c.args.operation) (c.args.here.now.first / 256 % 16) (c.args.here.now.first / 256 / 16) (Lit (signed_at 16 (unit_after c.args.here.now 0))) c.requires.whole) (refl)
    (c.literal_int.ensures ∙ same_four (λ a b d n. word_local (IntOp (standard_bin c.args.operation) a b (Lit d)) (frame c.args.head.now c.args.words.now) n) _ _ _ _ _ _ _ _ c.low_nibble-a.ensures c.high_nibble-b.ensures.value ((let f : SFits w32 c.signed_unit-literal.result = search rules in to_z-of_z w32 c.signed_unit-literal.result f) ∙ c.signed_unit-literal.ensures ∙ ap (signed_at 16) c.unit.ensures) c.after.ensures)
