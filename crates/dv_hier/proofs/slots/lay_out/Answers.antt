use Rattle.std.proofs.lemmas.Grind.{elements, moves, common_steps}
use Rattle.std.proofs.Common.{◌≡◌, ◌+◌, ◌≤◌, refl, length, get_or, sum_by, arith}
use Rattle.std.proofs.lemmas.Option.{slice_get_read}
use Rattle.dv_defs.specs.Order.{numbers}
use Rattle.dv_hier.specs.Slots.{chain_words, first_field, words_in}
use Rattle.dv_hier.proofs.Cells.{as_many_firsts, first_at, first_within}
use Rattle.dv_hier.proofs.Chains.{room_in_chain, fewer, laid_slots, laid_fields}
use Rattle.dv_hier.proofs.slots.lay_out.Goals as goal

pub inherited-requires-clause-few_words : goal.inherited-requires-clause-few_words
inherited-requires-clause-few_words c =
    let cs = c.args.infos.now in
    let info = c.index-infos-class.result in
    let there = slice_get_read cs (length cs) c.loop-class.class info refl c.loop-class-test.true c.index-infos-class.is in
    fewer (chain_words cs (numbers c.in_ok-chain.chain.items)) (words_in info.def info.def.fields) 4294967296
    (room_in_chain cs c.requires.acyclic c.loop-class.class info (numbers c.in_ok-chain.chain.items) c.loop-class-test.true there c.in_ok-chain.ensures.chain c.requires.few_fields)

pub add_fields-requires-clause-few_words : goal.add_fields-requires-clause-few_words
add_fields-requires-clause-few_words c =
    let cs = c.args.infos.now in
    let info = c.index-infos-class.result in
    let there = slice_get_read cs (length cs) c.loop-class.class info refl c.loop-class-test.true c.index-infos-class.is in
    rw c.in_ok-cells.ensures.words
    (room_in_chain cs c.requires.acyclic c.loop-class.class info (numbers c.in_ok-chain.chain.items) c.loop-class-test.true there c.in_ok-chain.ensures.chain c.requires.few_fields)

pub bounds-firsts-class : goal.bounds-firsts-class
bounds-firsts-class c =
    let many : length c.args.firsts.now ≡ length c.args.infos.now = as_many_firsts c.args.infos.now c.args.firsts.now c.requires.firsts in
    rw many c.loop-class-test.true

pub add-requires-clause-few_fields : goal.add-requires-clause-few_fields
add-requires-clause-few_fields c =
    let cs = c.args.infos.now in
    let info = c.index-infos-class.result in
    let there = slice_get_read cs (length cs) c.loop-class.class info refl c.loop-class-test.true c.index-infos-class.is in
    let first : get_or c.args.firsts.now c.loop-class.class 0 ≡ first_field cs c.loop-class.class = first_at cs c.args.firsts.now c.loop-class.class 0 c.requires.firsts c.loop-class-test.true in
    let few : first_field cs c.loop-class.class + length info.def.fields ≤ sum_by (λ d. length d.def.fields) cs = first_within cs c.loop-class.class info there in
    rw first (omega (arith, c.requires.few_fields))

pub add-requires-clause-few_words : goal.add-requires-clause-few_words
add-requires-clause-few_words c =
    let cs = c.args.infos.now in
    let info = c.index-infos-class.result in
    let there = slice_get_read cs (length cs) c.loop-class.class info refl c.loop-class-test.true c.index-infos-class.is in
    rw c.in_ok-cells.ensures.words
    (room_in_chain cs c.requires.acyclic c.loop-class.class info (numbers c.in_ok-chain.chain.items) c.loop-class-test.true there c.in_ok-chain.ensures.chain c.requires.few_fields)

pub loop-class-preserved : goal.loop-class-preserved
loop-class-preserved c =
    let cs = c.args.infos.now in
    let i = c.loop-class.class in
    let info = c.index-infos-class.result in
    let there = slice_get_read cs (length cs) i info refl c.loop-class-test.true c.index-infos-class.is in
    let first : get_or c.args.firsts.now i 0 ≡ first_field cs i = first_at cs c.args.firsts.now i 0 c.requires.firsts c.loop-class-test.true in (
      laid_slots cs i info (numbers c.in_ok-chain.chain.items) (get_or c.args.firsts.now i 0) c.in_ok-cells.cells.fields.items c.add.new.self.fields.items c.loop-class.layout.slots.items c.push.new.self.items
          there c.in_ok-chain.ensures.chain first c.in_ok-cells.ensures.fields c.in_ok-add.ensures.fields c.loop-class.invariant.0 (rw c.of.ensures at c.in_ok-push.ensures.items),
      laid_fields cs i info (numbers c.in_ok-chain.chain.items) c.in_ok-cells.cells.words c.loop-class.layout.fields.items c.add_fields.new.fields.items
          there c.in_ok-chain.ensures.chain c.in_ok-cells.ensures.words c.loop-class.invariant.1 c.in_ok-add_fields.ensures,
    )

pub returns-in_err-add-clause-fields : goal.returns-in_err-add-clause-fields
returns-in_err-add-clause-fields c = grind (arith, elements)

pub returns-in_err-add-clause-slots : goal.returns-in_err-add-clause-slots
returns-in_err-add-clause-slots c = grind (arith, moves)

pub returns-in_err-add_fields-clause-fields : goal.returns-in_err-add_fields-clause-fields
returns-in_err-add_fields-clause-fields c = grind (arith, elements)

pub returns-in_err-add_fields-clause-slots : goal.returns-in_err-add_fields-clause-slots
returns-in_err-add_fields-clause-slots c = grind (arith, common_steps)

pub add_fields-requires-clause-few_fields : goal.add_fields-requires-clause-few_fields
add_fields-requires-clause-few_fields c = grind (arith, common_steps)

pub returns-in_err-push-clause-slots : goal.returns-in_err-push-clause-slots
returns-in_err-push-clause-slots c = grind (arith, common_steps)

pub returns-in_err-push-clause-fields : goal.returns-in_err-push-clause-fields
returns-in_err-push-clause-fields c = grind (arith, common_steps)

pub inherited-requires-clause-range : goal.inherited-requires-clause-range
inherited-requires-clause-range c = grind (arith, common_steps)

pub returns-in_err-cells-clause-slots : goal.returns-in_err-cells-clause-slots
returns-in_err-cells-clause-slots c = grind (arith, common_steps)

pub returns-in_err-chain-clause-slots : goal.returns-in_err-chain-clause-slots
returns-in_err-chain-clause-slots c = grind (arith, common_steps)

pub returns-in_err-chain-clause-fields : goal.returns-in_err-chain-clause-fields
returns-in_err-chain-clause-fields c = grind (arith, common_steps)

pub returns-in_err-cells-clause-fields : goal.returns-in_err-cells-clause-fields
returns-in_err-cells-clause-fields c = grind (arith, common_steps)
