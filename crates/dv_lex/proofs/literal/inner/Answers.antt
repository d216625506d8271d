use Rattle.std.proofs.Common.{IsUtf8, sym, ◌∙◌, subst}
use Rattle.dv_lex.specs.Literals.{Writes}
use Rattle.dv_lex.proofs.Grammar.Utf8.{writes_text}
use Rattle.dv_lex.proofs.Literals.Fronts.{inner_is}
use Rattle.dv_lex.proofs.literal.inner.Goals as goal

pub unreachable-requires : goal.unreachable-requires
unreachable-requires c =
    let text = c.args.literal.now in
    let is = c.requires.2 in
    c.in-Err.ensures.cases.0 (subst IsUtf8 (sym (inner_is c.requires.0 c.requires.1 text is)) (writes_text _ _ _ is.writes))

pub returns : goal.returns
returns c = λ quote units is. subst (Writes quote units) (sym (c.in-Ok.ensures.cases.0 ∙ inner_is quote units c.args.literal.now is)) is.writes
