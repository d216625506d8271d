use Rattle.std.proofs.Common.{rules, ◌<◌, ◌≤◌, ◌^◌, length, ap, subst, arith}
use Rattle.dv_defs.specs.Images.{Image}
use Rattle.dv_defs.specs.Linked.{IsImage}
use Rattle.dv_threads.proofs.Runs.{few, none_at}
use Rattle.dv_threads.proofs.running.run_number.Goals as goal

pub overflow_cast-id : goal.overflow_cast-id
overflow_cast-id c =
    let is : IsImage c.args.image.now = subst IsImage c.image.view_is c.image.invariant.0 in
    let below : c.loop-i.i < 2 ^ 32 =
    omega (arith, few c.args.image.now is, c.loop-i-test.true, c.len-i-end.ensures, ap (λ (i : Image). length i.methods) c.image.view_is) in
    search rules

pub returns-clause-missing : goal.returns-clause-missing
returns-clause-missing c =
    let past : length c.args.image.now.methods ≤ c.loop-i.i =
    omega (arith, c.loop-i-test.false, c.len-i-end.ensures, ap (λ (i : Image). length i.methods) c.image.view_is) in
    none_at c.args.image.now c.loop-i.i past c.loop-i.invariant
