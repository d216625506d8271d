-- What the levels and the stacks of an engine hold has 32 bits.
use Rattle.std.specs.Prelude.{All}
use Rattle.dv_words.specs.Standing.{LevelFits, ResultFits}
use Rattle.dv_words.specs.State.{WordStack}
use Rattle.dv_frames.specs.declared.levels.Level.{Level}
use Rattle.dv_frames.specs.declared.levels.Level.TheVariants as level

-- the result that is kept in a level
abbrev pub HeadFits : Level → Type 0
HeadFits (level.Code h b) = ResultFits h.result
HeadFits (level.Init c r) = Unit {0}

-- all levels of a stack
abbrev pub StackFits : WordStack → Type 0
StackFits s = All LevelFits s.levels
