use Rattle.std.proofs.Common.{◌≡◌, ◌<◌, ℕ, List, length, rules, tests, sym, ap, ◌∙◌, arith}
use Rattle.std.specs.Prelude.{◌&&◌}
use Rattle.std.specs.List.{list_all}
use Rattle.std.proofs.lemmas.Bool.{lt-ltb}
use Rattle.std.proofs.lemmas.Iterator.{YieldsList-from_slice}
use Rattle.std.proofs.lemmas.Iterator.Search.{all_from_yields_List}
use Rattle.dv_names.specs.Descriptors.{is_name_byte, is_plain_name}
use Rattle.dv_coderead.proofs.names.is_plain_name.Goals as goal

plain_by_bytes : (w : List ℕ) → 0 < length w → is_plain_name w ≡ list_all is_name_byte w
plain_by_bytes w some = ap (λ t. t && list_all is_name_byte w) (lt-ltb 0 (length w) some)

pub returns-then-not-is_empty : goal.returns-then-not-is_empty
returns-then-not-is_empty c =
    let w = c.args.word.now in
    let some : 0 < length w = grind arith in
    all_from_yields_List is_name_byte _ _ c.all.result c.all.ensures.ran (YieldsList-from_slice w cc) (λ x b q k. search (rules, tests))
    ∙ sym (plain_by_bytes w some)
