use mir.Val.{SFits}
use Rattle.std.proofs.Common.{sym, ap, ◌∙◌, rules, w64}
use Rattle.std.proofs.lemmas.Bool.{true≢false}
use Rattle.std.proofs.lemmas.Int.{to_z-of_z}
use Rattle.dv_coderead.specs.BodyLines.{count_from}
use Rattle.dv_coderead.proofs.Values.{count_above, count_below, count_unspelled, count_within}
use Rattle.dv_coderead.proofs.body_line.count.Goals as goal

pub returns-then-not-is_number-clause-exact : goal.returns-then-not-is_number-clause-exact
returns-then-not-is_number-clause-exact c =
    sym (count_unspelled c.args.more c.args.word.now (λ is. true≢false (sym (c.is_number.ensures.1 is) ∙ c.if-not-is_number.true)))

pub returns-in-Ok-clause-exact : goal.returns-in-Ok-clause-exact
returns-in-Ok-clause-exact c =
    let is = c.is_number.ensures.0 c.if-not-is_number.false in
    let fits : SFits w64 c.in-Ok.number = search rules in
    c.count_from.ensures.exact ∙ ap (count_from c.args.more) (to_z-of_z w64 c.in-Ok.number fits)
    ∙ sym (count_within c.args.more c.args.word.now is.0 is.1 c.in-Ok.number (c.in-Ok.ensures is.0 is.1))

pub returns-in-Err-clause-exact : goal.returns-in-Err-clause-exact
returns-in-Err-clause-exact c =
    let is = c.is_number.ensures.0 c.if-not-is_number.false in
    sym (count_below c.args.more c.args.word.now is.0 is.1 (c.in-Err.ensures is.0 is.1).1 (sym c.starts_with.ensures.value ∙ c.if-starts_with.true))

pub returns-in-Err-2-clause-exact : goal.returns-in-Err-2-clause-exact
returns-in-Err-2-clause-exact c =
    let is = c.is_number.ensures.0 c.if-not-is_number.false in
    sym (count_above c.args.more c.args.word.now is.0 is.1 (c.in-Err-2.ensures is.0 is.1).1 (sym c.starts_with.ensures.value ∙ c.if-starts_with.false))
