use Rattle.std.proofs.Common.{rules, tests, arith, ◌≡◌}
use Rattle.std.proofs.lemmas.Iterator.{YieldsList-from_slice}
use Rattle.std.proofs.lemmas.Iterator.Search.{position_from_yields_List}
use Rattle.dv_hier.proofs.Rows.{is_no_bracket, brackets, type_in_parts, type_then, place_or}
use Rattle.dv_hier.proofs.boot_rows.type_is.Goals as goal

pub returns-then-dims-from : goal.returns-then-dims-from
returns-then-dims-from c =
    type_then c.args.word.now c.args.ty.now c.unwrap_or-dims.result c.base_is.result
    (place_or is_no_bracket c.args.word.now c.position.result _
    (position_from_yields_List is_no_bracket _ _ _ c.position.ensures.ran (YieldsList-from_slice c.args.word.now (cc)) (λ x b q k. search (rules, tests)))
    c.unwrap_or-dims.ensures)
    (cc)
    c.base_is.ensures

pub returns-else-dims-from : goal.returns-else-dims-from
returns-else-dims-from c =
    let dims : c.unwrap_or-dims.result ≡ brackets c.args.word.now =
    place_or is_no_bracket c.args.word.now c.position.result _
    (position_from_yields_List is_no_bracket _ _ _ c.position.ensures.ran (YieldsList-from_slice c.args.word.now (cc)) (λ x b q k. search (rules, tests)))
    c.unwrap_or-dims.ensures
    in
    rw (type_in_parts c.args.word.now c.args.ty.now, ← dims) (grind arith)
