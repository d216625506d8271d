use Rattle.dv_asm.proofs.PlaceLemmas.{AreSoFar}
use Rattle.dv_asm.proofs.places.addresses.Given as goal

abbrev pub invariant-loop-k : goal.invariant-loop-k
invariant-loop-k l = AreSoFar l.items l.addresses.items l.end l.k
