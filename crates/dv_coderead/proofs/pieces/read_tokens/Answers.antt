use Rattle.std.proofs.lemmas.Grind.{common_steps}
use Rattle.std.proofs.Common.{◌<◌, sym, subst, arith}
use Rattle.std.proofs.lemmas.List.{length-map, get_or-map}
use Rattle.dv_lex.specs.declared.token.Token.{Token}
use Rattle.dv_lex.specs.declared.token.TokenKind.TheVariants.{Str}
use Rattle.dv_lex.specs.Grammar.{IsLexeme}
use Rattle.dv_lex.specs.Lines.{lexeme_in}
use Rattle.dv_coderead.proofs.pieces.read_tokens.Goals as goal

pub read_token-requires-clause-token : goal.read_token-requires-clause-token
read_token-requires-clause-token c =
    let i = c.loop-token.token-index in
    let f = lexeme_in c.args.text.now in
    let d : Token = record { kind = Str; start = 0; end = 0 } in
    subst IsLexeme (get_or-map f c.args.tokens.now i d (f d) c.loop-token-test.true)
    (c.requires.tokens i (f d) (subst (λ n. i < n) (sym (length-map c.args.tokens.now f)) c.loop-token-test.true))

pub returns : goal.returns
returns c = grind (arith, common_steps)

pub returns-in_err-read_token : goal.returns-in_err-read_token
returns-in_err-read_token c = grind (arith, common_steps)
