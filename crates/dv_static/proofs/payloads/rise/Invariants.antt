use Rattle.dv_static.proofs.RisingKeys.{RiseFrom}
use Rattle.dv_static.proofs.payloads.rise.Given as goal

abbrev pub invariant-loop-i : goal.invariant-loop-i
invariant-loop-i l = RiseFrom l.keys l.i
