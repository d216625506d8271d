use Rattle.std.proofs.Common.{◌≡◌, true, length, rules, tests, arith}
use Rattle.std.specs.Prelude.{nat_lt}
use Rattle.std.specs.List.{list_all}
use Rattle.std.proofs.lemmas.Bool.{lt-ltb}
use Rattle.std.proofs.lemmas.Iterator.{YieldsList-from_slice}
use Rattle.std.proofs.lemmas.Iterator.Search.{all_from_yields_List}
use Rattle.dv_lex.specs.Numbers.{is_decimal}
use Rattle.dv_coderead.proofs.words.are_decimal.Goals as goal

pub returns-then-not-is_empty : goal.returns-then-not-is_empty
returns-then-not-is_empty c =
    let digits = c.args.digits.now in
    let all : c.all.result ≡ list_all is_decimal digits = all_from_yields_List is_decimal _ _ c.all.result c.all.ensures.ran (YieldsList-from_slice digits cc) (λ x b q k. search (rules, tests)) in
    let some : nat_lt 0 (length digits) ≡ true = lt-ltb 0 (length digits) (grind arith) in
    rw some all
