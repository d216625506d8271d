use Rattle.std.proofs.Common.{◌∙◌, sym, ap, length}
use Rattle.dv_lex.specs.Lines.{lexemes_in}
use Rattle.dv_log.proofs.Fields.{bad, some_tokens}
use Rattle.dv_log.proofs.read.read_line.Goals as goal

pub returns : goal.returns
returns c =
    let found = rw c.in-Ok.is at c.in_ok-tokens.ensures.exact in
    let some = some_tokens c.args.line.now c.in-Ok.tokens.items c.in-Ok.tokens.len (sym c.as_slice.ensures.len ∙ ap length c.as_slice.ensures.value) (sym c.is_empty.ensures ∙ c.if-is_empty.false) in
    bad c.args.line.now (lexemes_in c.args.line.now c.in-Ok.tokens.items) c.entry.result found some c.in-None.is (rw c.as_slice.ensures.value at c.entry.ensures)
