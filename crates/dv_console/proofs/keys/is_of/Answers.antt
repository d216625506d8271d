use Rattle.std.proofs.Common.{◌≡◌, ℕ, List, Option, Some, None, Bor, ap, rules, tests}
use Rattle.std.specs.Prelude.{is_some, option_map}
use Rattle.std.proofs.lemmas.Iterator.{YieldsList-from_slice}
use Rattle.std.proofs.lemmas.Iterator.Search.{any_from_yields_List}
use Rattle.dv_console.specs.declared.keys.Key.{Key}
use Rattle.dv_console.specs.Words.{text_behind}
use Rattle.dv_console.proofs.keys.is_of.Goals as goal

some_alike : (o : Option (Bor (List ℕ))) (p : Option (List ℕ)) → option_map (λ t. t.now) o ≡ p → is_some o ≡ is_some p
some_alike None p e = ap is_some e
some_alike (Some t) p e = ap is_some e

pub returns : goal.returns
returns c =
    let word = c.args.word.now in
    any_from_yields_List (λ (k : Key). is_some (text_behind k word)) _ _ c.any.result c.any.ensures.ran (YieldsList-from_slice c.args.keys.now cc) (λ x b q k. search (rules, tests, some_alike))
