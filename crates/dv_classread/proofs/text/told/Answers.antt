use Rattle.std.proofs.Common.{sym, subst}
use Rattle.dv_lex.specs.Lines.{AreTokens}
use Rattle.dv_classread.proofs.text.told.Goals as goal

pub read_tokens-requires-clause-tokens : goal.read_tokens-requires-clause-tokens
read_tokens-requires-clause-tokens c = subst (AreTokens c.args.text.now) (sym c.items.ensures) c.requires.tokens
