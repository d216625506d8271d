use Rattle.std.proofs.Common.{◌<◌, ℕ, get_or}
use Rattle.dv_frames.specs.declared.levels.Level.{Level}
use Rattle.dv_sound.specs.Words.{HeadFits}
use Rattle.dv_sound.proofs.words.levels_fit.Given as goal

abbrev pub invariant-loop-level : goal.invariant-loop-level
invariant-loop-level l = (k : ℕ) (d : Level) → k < l.level-index → HeadFits (get_or l.levels k d)
