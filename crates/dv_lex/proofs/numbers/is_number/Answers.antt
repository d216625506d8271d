use Rattle.std.proofs.Common.{◌≡◌, true, ◌<◌, length, rules, tests, sym, ◌∙◌, arith}
use Rattle.std.proofs.lemmas.Iterator.{YieldsList-from_slice}
use Rattle.std.proofs.lemmas.Iterator.Search.{all_from_yields_List}
use Rattle.dv_lex.specs.Numbers.{is_digit}
use Rattle.dv_lex.proofs.Spelled.Texts.{spelled_by_parts}
use Rattle.dv_lex.proofs.numbers.is_number.Goals as goal

pub returns-then-not-is_empty : goal.returns-then-not-is_empty
returns-then-not-is_empty c =
    let parts = c.cut-parts.result in
    let all = all_from_yields_List (is_digit parts.hexadecimal) _ _ c.all.result c.all.ensures.ran (YieldsList-from_slice parts.digits.now cc) (λ x b q k. search (rules, tests)) in
    let some : 0 < length parts.digits.now = grind arith in
    let yes = λ (t : c.all.result ≡ true). spelled_by_parts c.args.token.now parts c.cut-parts.ensures.whole (some, sym all ∙ t) in
    (λ t. (_, yes t), λ n. all ∙ (c.cut-parts.ensures.digits n).1)
