use Rattle.std.proofs.lemmas.Result.{err_from_is_err_and}
use Rattle.dv_coderead.proofs.raw_body.RawDrafting.read_line.Goals as goal

pub returns : goal.returns
returns c =
    let adds = c.in_ok-add.ensures in
    record { says = c.in_ok-says.says; is = c.in_ok-says.ensures.exact; drafting = adds.drafting; place = adds.place; body = adds.with }

pub returns-in_err-says : goal.returns-in_err-says
returns-in_err-says c =
    let p = err_from_is_err_and c.from_residual.result c.from_residual.ensures.1 in
    rw (p.1, p.2) c.in_err-says.ensures.exact
