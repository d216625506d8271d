use Rattle.std.proofs.Common.{rules, tests}
use Rattle.std.specs.Prelude.{bytes_eq}
use Rattle.std.proofs.lemmas.Iterator.Splits.{YieldsList-from_slice_split}
use Rattle.std.proofs.lemmas.Iterator.Search.{any_from_yields_List}
use Rattle.dv_coderead.specs.Heads.{float_names, is_blank}
use Rattle.dv_coderead.proofs.head.is_float_name.Goals as goal

pub returns : goal.returns
returns c =
    let w = c.args.word.now in
    any_from_yields_List (λ name. bytes_eq name w) _ _ c.any.result c.any.ensures.ran
    (YieldsList-from_slice_split _ is_blank float_names c.split.ensures.rest c.split.ensures.done c.split.ensures.closure (λ x b q k. search (rules, tests)))
    (λ x b q k. search (rules, tests))
