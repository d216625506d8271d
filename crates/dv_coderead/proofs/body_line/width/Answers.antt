use mir.Val.{SFits}
use Rattle.std.proofs.Common.{sym, ap, ◌∙◌, rules, w64}
use Rattle.std.proofs.lemmas.Int.{to_z-of_z}
use Rattle.std.proofs.lemmas.Result.{err_from_is_err_and}
use Rattle.dv_coderead.specs.BodyLines.{width_from}
use Rattle.dv_coderead.proofs.Values.{width_refused, width_within}
use Rattle.dv_coderead.proofs.body_line.width.Goals as goal

pub returns-in_err-literal-clause-exact : goal.returns-in_err-literal-clause-exact
returns-in_err-literal-clause-exact c =
    let p = err_from_is_err_and c.from_residual.result c.from_residual.ensures.1 in
    rw (p.1, p.2) (sym (width_refused c.args.word.now c.in_err-literal.field-0.0 (sym c.in_err-literal.ensures)))

pub returns-clause-exact : goal.returns-clause-exact
returns-clause-exact c =
    let z = c.in_ok-literal.field-0 in
    let fits : SFits w64 z = search rules in
    c.width_from.ensures.exact ∙ ap width_from (to_z-of_z w64 z fits) ∙ sym (width_within c.args.word.now z (sym c.in_ok-literal.ensures))
