use Rattle.std.specs.Prelude.{drop}
use Rattle.dv_machine.specs.Replaying.{replay_from}
use Rattle.dv_sound.proofs.Played.{Lefts}
use Rattle.dv_sound.proofs.playing.play_all.Given as goal

abbrev pub invariant-loop-number : goal.invariant-loop-number
invariant-loop-number l = Lefts l.image l.fn.vm l.vm (replay_from l.image 0 l.log) (replay_from l.image l.number (drop l.number l.log))
