use Rattle.dv_frames.specs.Heads.{frame}
use Rattle.dv_local.proofs.Looping.{steps_locally}
use Rattle.dv_local.proofs.step.step_once.Goals as goal

pub returns : goal.returns
returns c = record {
  steps = λ image units.
      steps_locally image c.args.units.now c.step.result (frame c.args.head.now c.args.words.now) (frame c.step.new.head c.step.new.words) units c.step.ensures;
}
