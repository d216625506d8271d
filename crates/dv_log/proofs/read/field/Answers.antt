use Rattle.dv_lex.specs.Lines.{lexeme_in}
use Rattle.dv_log.proofs.Fields.{field_is}
use Rattle.dv_log.proofs.read.field.Goals as goal

pub returns : goal.returns
returns c =
    let number = rw c.bytes-text.ensures at c.number.ensures in
    let spelled = rw c.bytes-text.ensures at c.is_number.ensures in
    field_is c.args.low c.args.high (lexeme_in c.args.line.now c.args.token.now) c.number.result c.in_range.result c.requires.high (spelled.0 c.if-not-is_number.false) number (rw c.ok.ensures.value at c.in_range.ensures)
