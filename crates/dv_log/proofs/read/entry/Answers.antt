use Rattle.dv_lex.specs.Lines.{lexeme_in, lexemes_in}
use Rattle.dv_log.proofs.Fields.{map_three, three}
use Rattle.dv_log.proofs.read.entry.Goals as goal

pub returns-in-len3 : goal.returns-in-len3
returns-in-len3 c =
    three (lexemes_in c.args.line.now c.args.tokens.now) _ _ _ c.field.result c.field-in-len3.result c.field-in-len3-2.result c.entry_of.result
    (map_three (lexeme_in c.args.line.now) c.args.tokens.now _ c.in-len3.len_at_least c.in-len3.len_below)
    c.field.ensures c.field-in-len3.ensures c.field-in-len3-2.ensures c.entry_of.ensures
