use Rattle.std.proofs.lemmas.Result.{err_from_is_err_and}
use Rattle.dv_hier.proofs.Built.{boot_fails, limit_fails, twice_fails, above_fails, naming_passes, few}
use Rattle.dv_hier.proofs.building.check_names.Goals as goal

pub returns-in_err-check_boot-clause-fault : goal.returns-in_err-check_boot-clause-fault
returns-in_err-check_boot-clause-fault c =
    let p = err_from_is_err_and c.from_residual.result c.from_residual.ensures.1 in
    rw (p.1, p.2) (boot_fails c.args.classes.now c.args.boot c.in_err-check_boot.field-0.0 c.in_err-check_boot.ensures)

pub returns-in_err-check_limits-clause-fault : goal.returns-in_err-check_limits-clause-fault
returns-in_err-check_limits-clause-fault c =
    let p = err_from_is_err_and c.from_residual-in_err-check_limits.result c.from_residual-in_err-check_limits.ensures.1 in
    rw (p.1, p.2) (limit_fails c.args.classes.now c.args.boot c.in_err-check_limits.field-0.0 c.in_ok-check_boot.ensures
    c.in_err-check_limits.ensures)

pub returns-in_err-names-clause-fault : goal.returns-in_err-names-clause-fault
returns-in_err-names-clause-fault c =
    let p = err_from_is_err_and c.from_residual-in_err-names.result c.from_residual-in_err-names.ensures.1 in
    rw (p.1, p.2) (twice_fails c.args.classes.now c.args.boot c.in_err-names.field-0.0 c.in_ok-check_boot.ensures
    c.in_ok-check_limits.ensures (c.in_err-names.ensures.fault c.args.boot))

pub returns-in_err-check_above-clause-fault : goal.returns-in_err-check_above-clause-fault
returns-in_err-check_above-clause-fault c =
    let p = err_from_is_err_and c.from_residual-in_err-check_above.result c.from_residual-in_err-check_above.ensures.1 in
    rw (p.1, p.2) (above_fails c.args.classes.now c.args.boot c.in_err-check_above.field-0.0 c.in_ok-check_boot.ensures
    c.in_ok-check_limits.ensures (c.in_ok-names.ensures.fault c.args.boot) (c.in_err-check_above.ensures c.args.boot))

pub returns-clause-fault : goal.returns-clause-fault
returns-clause-fault c =
    naming_passes c.args.classes.now c.args.boot c.in_ok-check_boot.ensures c.in_ok-check_limits.ensures
    (c.in_ok-names.ensures.fault c.args.boot) (c.in_ok-check_above.ensures c.args.boot)

pub returns-clause-few : goal.returns-clause-few
returns-clause-few c = few c.args.classes.now c.args.boot (returns-clause-fault c)
