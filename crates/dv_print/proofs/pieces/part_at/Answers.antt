use Rattle.std.proofs.lemmas.Grind.{common_steps}
use Rattle.std.proofs.Common.{sym, ◌∙◌, arith}
use Rattle.dv_units.proofs.Decoding.{units_fit}
use Rattle.dv_print.proofs.Steps.Tiles.{insn_begins, part_fits, payload_fits}
use Rattle.dv_print.proofs.pieces.part_at.Goals as goal

pub returns-then-begins_payload-clause-within : goal.returns-then-begins_payload-clause-within
returns-then-begins_payload-clause-within c =
    payload_fits c.payload_at.result c.args.units.now c.args.at (units_fit c.args.units.now c.type_inv.units) c.requires.inside
    (sym c.begins_payload.ensures ∙ c.if-begins_payload.true) c.payload_at.ensures

pub returns-else-begins_payload-clause-within : goal.returns-else-begins_payload-clause-within
returns-else-begins_payload-clause-within c =
    part_fits c.insn_at.result c.args.units.now c.args.at (units_fit c.args.units.now c.type_inv.units) c.requires.inside
    (c.insn_at.ensures ∙ sym (insn_begins c.args.units.now c.args.at c.requires.inside (sym c.begins_payload.ensures ∙ c.if-begins_payload.false)))

pub returns-else-begins_payload-clause-part : goal.returns-else-begins_payload-clause-part
returns-else-begins_payload-clause-part c = grind (arith, common_steps)
