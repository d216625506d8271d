use Rattle.dv_types.proofs.Raising.{AreRaised}
use Rattle.dv_types.proofs.rows.raise_registers.Given as goal

abbrev pub invariant-loop-place : goal.invariant-loop-place
invariant-loop-place l = AreRaised l.bases l.fn.own l.by l.own l.place l.rose
