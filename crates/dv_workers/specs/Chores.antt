-- What a chore is.
use Rattle.std.specs.Prelude.{◌≤◌, ℕ}
use Rattle.dv_defs.specs.Images.{Image}
use Rattle.dv_local.specs.declared.slice.Slice.{Slice}
use Rattle.dv_sound.specs.Lending.{IsLocalRun}
use Rattle.dv_workers.specs.declared.chore.Chore.{Chore}
use Rattle.dv_workers.specs.declared.chore.Chore.TheVariants.{Ran, Rest, Stop, Lent}

-- how many entries of the log it was
abbrev pub ran : Chore → ℕ
ran Ran = 1
ran Rest = 0
ran Stop = 0
ran (Lent s) = 0

-- local steps over an image, of which a commit takes so many
pub record IsSlice (image : Image) (most : ℕ) (s : Slice) : Type 0 where
  pub made : IsLocalRun image s
  pub few : s.steps ≤ most

-- a slice that is handed out has no step yet
abbrev pub IsChore : Image → Chore → Type 0
IsChore image Ran = Unit {0}
IsChore image Rest = Unit {0}
IsChore image Stop = Unit {0}
IsChore image (Lent s) = IsSlice image 0 s
