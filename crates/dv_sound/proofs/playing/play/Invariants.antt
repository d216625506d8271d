use Rattle.dv_machine.specs.Replaying.{steps_of}
use Rattle.dv_sound.proofs.Played.{Lefts}
use Rattle.dv_sound.proofs.playing.play.Given as goal

abbrev pub decreases-loop-left : goal.decreases-loop-left
decreases-loop-left l = l.left

abbrev pub invariant-loop-left : goal.invariant-loop-left
invariant-loop-left l = Lefts l.image l.fn.vm l.vm (steps_of l.image l.entry l.thread l.steps) (steps_of l.image l.entry l.thread l.left)
