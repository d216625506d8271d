use Rattle.std.proofs.Common.{ap, get_or}
use Rattle.std.proofs.lemmas.Result.{err_from_is_err_and}
use Rattle.dv_defs.specs.LinkFaults.{wrong_pools}
use Rattle.dv_resolve.proofs.PoolLaws.{defs_more, defs_told, told_of_image}
use Rattle.dv_resolve.proofs.pools.check_pools.Goals as goal

pub returns-in_err-check_class : goal.returns-in_err-check_class
returns-in_err-check_class c =
    let p = err_from_is_err_and c.from_residual.result c.from_residual.ensures.1 in
    let infos = c.args.members.now.infos.now in
    let i = c.loop-i.i in
    let e = c.in_err-check_class.field-0.0 in
    λ image known.
    rw (p.1, p.2)
    (told_of_image image infos e known.classes
    (defs_told (wrong_pools image) e infos i (get_or infos i c.index-members-i.result)
    (c.loop-i.invariant image known) c.loop-i-test.true (ap (get_or infos i) c.index-members-i.is) (c.in_err-check_class.ensures image known)))

pub loop-i-preserved : goal.loop-i-preserved
loop-i-preserved c =
    let infos = c.args.members.now.infos.now in
    let i = c.loop-i.i in
    λ image known.
    defs_more (wrong_pools image) infos i (get_or infos i c.index-members-i.result)
    (c.loop-i.invariant image known) c.loop-i-test.true (ap (get_or infos i) c.index-members-i.is) (c.in_ok-check_class.ensures image known)
