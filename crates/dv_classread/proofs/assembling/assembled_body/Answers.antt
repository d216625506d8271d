use Rattle.std.proofs.Common.{Some, ap, ◌∙◌}
use Rattle.std.proofs.lemmas.Result.{err_from_is_err_and}
use Rattle.dv_classread.proofs.Assembled.{body_laid, body_refused}
use Rattle.dv_classread.proofs.assembling.assembled_body.Goals as goal

pub returns-in_err-body-in-Some-Drafted : goal.returns-in_err-body-in-Some-Drafted
returns-in_err-body-in-Some-Drafted c =
    let p = err_from_is_err_and c.from_residual.result c.from_residual.ensures.1 in
    rw (p.1, p.2) (body_refused c.in-Some-Drafted.draft c.args.body (c.in-Some-Drafted.is ∙ ap Some c.in-Some-Drafted.field-0-is) c.in_err-body-in-Some-Drafted.field-0.0 c.in_err-body-in-Some-Drafted.ensures.refused)

pub returns-in_ok-body-in-Some-Drafted : goal.returns-in_ok-body-in-Some-Drafted
returns-in_ok-body-in-Some-Drafted c =
    let ensures = c.in_ok-body-in-Some-Drafted.ensures in
    body_laid c.in-Some-Drafted.draft c.args.body (c.in-Some-Drafted.is ∙ ap Some c.in-Some-Drafted.field-0-is) c.in_ok-body-in-Some-Drafted.field-0 ensures.sound ensures.value
