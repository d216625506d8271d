use Rattle.std.proofs.Common.{take}
use Rattle.dv_asm.specs.Places.{AreFirstLabels}
use Rattle.dv_asm.proofs.places.first_labels.Given as goal

abbrev pub invariant-loop-k : goal.invariant-loop-k
invariant-loop-k l = AreFirstLabels (take l.k l.items) l.labels
