use Rattle.dv_pverify.proofs.halves.+fn-judge_part-join+arg2+fn-judge_part-join+arg3+judge_part.Given as goal

abbrev pub decreases-join+arg2 : goal.decreases-join+arg2
decreases-join+arg2 g l = l.less

abbrev pub decreases-join+arg3 : goal.decreases-join+arg3
decreases-join+arg3 g l = l.rest

abbrev pub decreases-judge_part : goal.decreases-judge_part
decreases-judge_part g l = l.count
