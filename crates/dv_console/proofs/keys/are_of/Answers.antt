use Rattle.std.proofs.Common.{◌∙◌, ℕ, Bool, List, sym, rules, tests, string_bytes}
use Rattle.std.specs.Prelude.{is_some}
use Rattle.std.specs.List.{list_any}
use Rattle.std.proofs.lemmas.Iterator.{YieldsList-from_slice}
use Rattle.std.proofs.lemmas.Iterator.Search.{all_from_yields_List}
use Rattle.std.proofs.lemmas.List.Folds.{list_all-map}
use Rattle.dv_console.specs.declared.keys.Key.{Key}
use Rattle.dv_console.specs.Words.{text_behind}
use Rattle.dv_console.proofs.keys.are_of.Goals as goal

pub returns : goal.returns
returns c =
    let keys = c.args.keys.now in
    let of : List ℕ → Bool = λ word. list_any (λ (k : Key). is_some (text_behind k word)) keys in
    all_from_yields_List (λ w. of (string_bytes w)) _ _ c.all.result c.all.ensures.ran (YieldsList-from_slice c.args.words.now cc) (λ x b q k. search (rules, tests)) ∙ sym (list_all-map of string_bytes c.args.words.now)
