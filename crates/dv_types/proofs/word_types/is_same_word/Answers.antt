use Rattle.std.proofs.Common.{sym, ◌∙◌}
use Rattle.dv_bases.specs.Bases.{word_type}
use Rattle.dv_types.proofs.Same.{same_both, same_neither}
use Rattle.dv_types.proofs.word_types.is_same_word.Goals as goal

pub returns-then-is_word_under : goal.returns-then-is_word_under
returns-then-is_word_under c =
    let names = c.args.bases.now in
    c.is_word_under-then-is_word_under.ensures ∙
    same_both names.image c.have_ground.ensures.hierarchy (word_type names c.args.word) (word_type names c.args.other) (sym c.is_word_under.ensures ∙ c.if-is_word_under.true)

pub returns-else-is_word_under : goal.returns-else-is_word_under
returns-else-is_word_under c =
    let names = c.args.bases.now in
    c.if-is_word_under.false ∙
    sym (same_neither names.image c.have_ground.ensures.hierarchy (word_type names c.args.word) (word_type names c.args.other) (sym c.is_word_under.ensures ∙ c.if-is_word_under.false))
