use Rattle.dv_frames.specs.Heads.{frame}
use Rattle.dv_local.proofs.Looping.{Reached}
use Rattle.dv_local.proofs.step.steps.Given as goal

abbrev pub invariant-loop-done : goal.invariant-loop-done
invariant-loop-done l = Reached l.units l.done (frame l.initial.head l.initial.words) (frame l.head l.words)
