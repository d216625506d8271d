use Rattle.std.proofs.Common.{◌++◌, ◌∙◌}
use Rattle.dv_vtable.specs.Numbered.{numbers_of}
use Rattle.dv_vtable.specs.Rows.{chosen_row, itself_row}
use Rattle.dv_vtable.proofs.SelectLaws.{row_numbers, row_selects}
use Rattle.dv_vtable.proofs.SourceLaws.{has_methods}
use Rattle.dv_vtable.proofs.rows.Room.row_of.Goals as goal

pub returns-clause-selects : goal.returns-clause-selects
returns-clause-selects c = λ image of.
    let chain = c.entries.ensures ∙ c.in_ok-gather.ensures.chain image of in
    let first = c.in_ok-add_chain.ensures.selects image of ∙ (λ j. c.new.ensures.items j ++ itself_row image (chain j)) in
    c.in_ok-add_offers.ensures.selects image of
    ∙ ((λ j. first j ++ chosen_row image (c.in_ok-gather.ensures.offers image of j))
    ∙ row_selects image (has_methods c.args.sources.now c.requires.sources image of) c.args.class.0)

pub returns-clause-numbers : goal.returns-clause-numbers
returns-clause-numbers c = λ image of.
    let chain = c.entries.ensures ∙ c.in_ok-gather.ensures.chain image of in
    let first = c.in_ok-add_chain.ensures.numbers ∙ (λ j. c.new-2.ensures.items j ++ numbers_of (chain j)) in
    c.in_ok-add_offers.ensures.numbers
    ∙ ((λ j. first j ++ numbers_of (c.in_ok-gather.ensures.offers image of j))
    ∙ row_numbers image (has_methods c.args.sources.now c.requires.sources image of) c.args.class.0)
