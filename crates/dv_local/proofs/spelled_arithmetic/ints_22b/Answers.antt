use Rattle.std.proofs.Common.{◌/◌, ◌%◌, ◌∷◌, [], ◌∙◌, refl, ap}
use Rattle.dv_defs.specs.Formats.{F22b}
use Rattle.dv_defs.specs.Families as family
use Rattle.dv_defs.specs.Numbers.{signed_at}
use Rattle.dv_defs.specs.Op.{IntOp, Lit}
use Rattle.dv_defs.specs.Spelling.{few, with_literal}
use Rattle.dv_frames.specs.Heads.{frame}
use Rattle.dv_words.specs.Local.{word_local}
use Rattle.dv_units.specs.Tables.{standard_bin}
use Rattle.dv_local.specs.Spelled.{rest_of, unit_after}
use Rattle.dv_local.proofs.Doing.{did_one, int_op_is, same_four}
use Rattle.dv_local.proofs.Formats.{read_as, reads_22b}
use Rattle.std.proofs.Common.{rules, w32, SFits}
use Rattle.std.proofs.lemmas.Int.{to_z-of_z}
use Rattle.dv_local.proofs.spelled_arithmetic.ints_22b.Goals as goal

pub returns : goal.returns
returns c =
    did_one c.args.here.now 2 (with_literal c.args.opcode (few (c.args.here.now.first / 256 ∷ (unit_after c.args.here.now 0) % 256 ∷ [])) (signed_at 8 ((unit_after c.args.here.now 0) / 256))) (family.IntLiteral (standard_bin c.args.operation)) (IntOp (standard_bin c.args.operation) (c.args.here.now.first / 256) ((unit_after c.args.here.now 0) % 256) (Lit (signed_at 8 ((unit_after c.args.here.now 0) / 256)))) _ _
    (read_as c.args.here.now c.args.opcode F22b 2 _ c.requires.opcode c.requires.format (reads_22b c.args.opcode (c.args.here.now.first / 256) (rest_of c.args.here.now)))
    c.requires.family (λ image code. int_op_is (standard_bin c.args.operation) (c.args.here.now.first / 256) ((unit_after c.args.here.now 0) % 256) (Lit (signed_at 8 ((unit_after c.args.here.now 0) / 256))) c.requires.whole) (refl)
    (c.literal_int.ensures ∙ same_four (λ a b d n. word_local (IntOp (standard_bin c.args.operation) a b (Lit d)) (frame c.args.head.now c.args.words.now) n) _ _ _ _ _ _ _ _ c.high-a.ensures (ap (λ v. v % 256) c.unit-operands.ensures) ((let f : SFits w32 c.signed_byte-literal.result = search rules in to_z-of_z w32 c.signed_byte-literal.result f) ∙ c.signed_byte-literal.ensures ∙ ap (λ v. signed_at 8 (v / 256)) c.unit-operands.ensures) c.after.ensures)
