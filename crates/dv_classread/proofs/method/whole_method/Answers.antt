use Rattle.std.proofs.lemmas.Result.{err_from_is_err_and}
use Rattle.dv_classread.proofs.method.whole_method.Goals as goal

pub returns-in_err-body : goal.returns-in_err-body
returns-in_err-body c =
    let p = err_from_is_err_and c.from_residual.result c.from_residual.ensures.1 in
    rw (p.1, p.2) c.in_err-body.ensures

pub returns : goal.returns
returns c = c.in_ok-body.ensures
