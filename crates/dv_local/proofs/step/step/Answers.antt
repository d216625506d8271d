use Rattle.std.proofs.Common.{refl, arith}
use Rattle.dv_frames.specs.Heads.{frame}
use Rattle.dv_local.proofs.Looping.{split_at, stepped}
use Rattle.dv_local.proofs.step.step.Goals as goal

pub returns : goal.returns
returns c =
    stepped _ c.step_here.result (frame c.args.head.now c.args.words.now) (frame c.step_here.new.head c.step_here.new.words) refl
    (split_at c.args.units.now c.args.head.now.at (omega arith)) c.step_here.ensures
