use Rattle.std.proofs.Common.{◌≡◌, ◌+◌, ◌++◌, ◌<◌, ◌≤◌, [], ◌∷◌, length, get_or, sum_by, arith}
use Rattle.std.proofs.lemmas.Option.{slice_get-get_or}
use Rattle.dv_defs.specs.Order.{numbers}
use Rattle.dv_hier.specs.Slots.{chain_cells, chain_words, first_field, words_in}
use Rattle.dv_hier.proofs.Cells.{as_many_firsts, first_at, first_within, popped_before, popped_end, popped_cells, popped_words, words_room, words_more}
use Rattle.dv_hier.proofs.slots.inherited.Goals as goal

pub bounds-firsts-class : goal.bounds-firsts-class
bounds-firsts-class c =
    let cs = c.args.infos.now in
    let split : c.loop-id.chain.items ≡ c.pop.new.self.items ++ c.in-Some.id ∷ [] = rw c.in-Some.is at c.pop.ensures.items in
    let within : c.in-Some.id.0 < length cs = popped_end (λ x. x.0 < length cs) c.loop-id.chain.items c.pop.new.self.items c.in-Some.id split c.loop-id.invariant.0 in
    let many : length c.args.firsts.now ≡ length cs = as_many_firsts cs c.args.firsts.now c.requires.firsts in
    rw many within

pub add-requires-clause-few_fields : goal.add-requires-clause-few_fields
add-requires-clause-few_fields c =
    let cs = c.args.infos.now in
    let split : c.loop-id.chain.items ≡ c.pop.new.self.items ++ c.in-Some.id ∷ [] = rw c.in-Some.is at c.pop.ensures.items in
    let within : c.in-Some.id.0 < length cs = popped_end (λ x. x.0 < length cs) c.loop-id.chain.items c.pop.new.self.items c.in-Some.id split c.loop-id.invariant.0 in
    let info = get_or cs c.in-Some.id.0 c.index-infos-class.result in
    let first : get_or c.args.firsts.now c.in-Some.id.0 0 ≡ first_field cs c.in-Some.id.0 = first_at cs c.args.firsts.now c.in-Some.id.0 0 c.requires.firsts within in
    let few : first_field cs c.in-Some.id.0 + length info.def.fields ≤ sum_by (λ d. length d.def.fields) cs =
    first_within cs c.in-Some.id.0 info (slice_get-get_or cs c.in-Some.id.0 c.index-infos-class.result within) in
    rw first (omega (arith, c.requires.few_fields))

pub add-requires-clause-few_words : goal.add-requires-clause-few_words
add-requires-clause-few_words c =
    let cs = c.args.infos.now in
    let split : c.loop-id.chain.items ≡ c.pop.new.self.items ++ c.in-Some.id ∷ [] = rw c.in-Some.is at c.pop.ensures.items in
    let within : c.in-Some.id.0 < length cs = popped_end (λ x. x.0 < length cs) c.loop-id.chain.items c.pop.new.self.items c.in-Some.id split c.loop-id.invariant.0 in
    let info = get_or cs c.in-Some.id.0 c.index-infos-class.result in
    let left : chain_words cs (numbers c.loop-id.chain.items) ≡ words_in info.def info.def.fields + chain_words cs (numbers c.pop.new.self.items) =
    popped_words cs c.loop-id.chain.items c.pop.new.self.items c.in-Some.id info split (slice_get-get_or cs c.in-Some.id.0 c.index-infos-class.result within) in
    words_room c.loop-id.cells.words (words_in info.def info.def.fields) (chain_words cs (numbers c.pop.new.self.items)) (chain_words cs (numbers c.loop-id.chain.items)) (chain_words cs (numbers c.args.chain.items)) 4294967296
    left c.loop-id.invariant.2 c.requires.few_words

pub loop-id-preserved : goal.loop-id-preserved
loop-id-preserved c =
    let cs = c.args.infos.now in
    let split : c.loop-id.chain.items ≡ c.pop.new.self.items ++ c.in-Some.id ∷ [] = rw c.in-Some.is at c.pop.ensures.items in
    let within : c.in-Some.id.0 < length cs = popped_end (λ x. x.0 < length cs) c.loop-id.chain.items c.pop.new.self.items c.in-Some.id split c.loop-id.invariant.0 in
    let info = get_or cs c.in-Some.id.0 c.index-infos-class.result in
    let there = slice_get-get_or cs c.in-Some.id.0 c.index-infos-class.result within in
    let first : get_or c.args.firsts.now c.in-Some.id.0 0 ≡ first_field cs c.in-Some.id.0 = first_at cs c.args.firsts.now c.in-Some.id.0 0 c.requires.firsts within in
    let left : chain_words cs (numbers c.loop-id.chain.items) ≡ words_in info.def info.def.fields + chain_words cs (numbers c.pop.new.self.items) =
    popped_words cs c.loop-id.chain.items c.pop.new.self.items c.in-Some.id info split there in (
      popped_before (λ x. x.0 < length cs) c.loop-id.chain.items c.pop.new.self.items c.in-Some.id split c.loop-id.invariant.0,
      popped_cells cs c.loop-id.chain.items c.pop.new.self.items c.in-Some.id info (get_or c.args.firsts.now c.in-Some.id.0 0)
          c.loop-id.cells.fields.items c.add.new.self.fields.items (chain_cells cs (numbers c.args.chain.items)) split there first c.in_ok-add.ensures.fields c.loop-id.invariant.1,
      words_more c.loop-id.cells.words (words_in info.def info.def.fields) (chain_words cs (numbers c.pop.new.self.items)) (chain_words cs (numbers c.loop-id.chain.items)) (chain_words cs (numbers c.args.chain.items)) c.add.new.self.words
          left c.loop-id.invariant.2 c.in_ok-add.ensures.words,
    )
