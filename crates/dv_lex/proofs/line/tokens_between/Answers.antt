use Rattle.std.proofs.Common.{◌∙◌, sym}
use Rattle.std.specs.Prelude.{slice_range}
use Rattle.dv_lex.proofs.Rows.{answer_gives, answer_has_tokens}
use Rattle.dv_lex.proofs.line.tokens_between.Goals as goal

pub returns-clause-exact : goal.returns-clause-exact
returns-clause-exact c = answer_gives c.args.text.now c.args.start c.args.end c.tokens_from.result (sym c.is_utf8.ensures ∙ c.if-not-is_utf8.false) c.tokens_from.ensures.within c.tokens_from.ensures.exact

pub returns-clause-tokens : goal.returns-clause-tokens
returns-clause-tokens c =
    answer_has_tokens c.args.text.now c.args.start (slice_range c.args.text.now c.args.start c.args.end) c.tokens_from.result
    (answer_gives c.args.text.now c.args.start c.args.end c.tokens_from.result (sym c.is_utf8.ensures ∙ c.if-not-is_utf8.false) c.tokens_from.ensures.within c.tokens_from.ensures.exact)
