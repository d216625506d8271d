use Rattle.std.proofs.Common.{◌≡◌, ◌+◌, length}
use Rattle.dv_pverify.specs.Judging.{AreJudged}
use Rattle.dv_pverify.proofs.judge.judge_range.Given as goal

abbrev pub invariant-loop-method : goal.invariant-loop-method
invariant-loop-method g l = record {
  judged : AreJudged l.image l.from l.judged.maps.items l.judged.faults.items;
  count : l.from + length l.judged.maps.items ≡ l.method;
}
