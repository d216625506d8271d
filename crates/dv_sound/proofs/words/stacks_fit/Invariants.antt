use Rattle.std.proofs.Common.{◌<◌, ℕ, get_or}
use Rattle.dv_words.specs.State.{WordStack}
use Rattle.dv_sound.specs.Words.{StackFits}
use Rattle.dv_sound.proofs.words.stacks_fit.Given as goal

abbrev pub invariant-loop-stack : goal.invariant-loop-stack
invariant-loop-stack l = (k : ℕ) (d : WordStack) → k < l.stack-index → StackFits (get_or l.stacks k d)
