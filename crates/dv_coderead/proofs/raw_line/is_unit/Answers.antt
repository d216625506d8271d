use Rattle.std.proofs.Common.{◌≡◌, ◌==◌, true, length, rules, tests, eq-eqb}
use Rattle.std.specs.List.{list_all}
use Rattle.std.proofs.lemmas.Iterator.{YieldsList-from_slice}
use Rattle.std.proofs.lemmas.Iterator.Search.{all_from_yields_List}
use Rattle.dv_lex.specs.Bytes.{is_hexadecimal}
use Rattle.dv_coderead.proofs.raw_line.is_unit.Goals as goal

pub returns-then-word-eq4 : goal.returns-then-word-eq4
returns-then-word-eq4 c =
    let w = c.args.word.now in
    let all : c.all.result ≡ list_all is_hexadecimal w = all_from_yields_List is_hexadecimal _ _ c.all.result c.all.ensures.ran (YieldsList-from_slice w cc) (λ x b q k. search (rules, tests)) in
    let four : (length w == 4) ≡ true = eq-eqb (length w) 4 c.if-word-eq4.true in
    rw four all
