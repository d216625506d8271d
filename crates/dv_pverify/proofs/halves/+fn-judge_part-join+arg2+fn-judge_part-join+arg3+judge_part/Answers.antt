use Rattle.std.proofs.Common.{arith}
use Rattle.dv_pverify.proofs.Judged.{judged_append}
use Rattle.dv_pverify.proofs.halves.+fn-judge_part-join+arg2+fn-judge_part-join+arg3+judge_part.Goals as goal

pub returns-clause-judged : goal.returns-clause-judged
returns-clause-judged g t c =
    let (first, long) = rw c.in_ok-all.was at c.join-first.ensures.first in
    let (then, _) = rw c.in_ok-then.was at c.join-first.ensures.second in
    rw (c.in_ok-append.ensures.maps, c.in_ok-append.ensures.faults)
    (judged_append (g.J.Judging.image c.args.judge.now) c.args.from _ c.in_ok-all.all.maps.items c.in_ok-then.then.maps.items c.in_ok-all.all.faults.items c.in_ok-then.then.faults.items (omega (arith, long)) first then)
