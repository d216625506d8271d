-- Local steps of the frame on top of a stack.
use Rattle.std.specs.Prelude.{◌≡◌, ℕ, Bool, false, Option, Some}
use Rattle.dv_defs.specs.Images.{Image}
use Rattle.dv_words.specs.Stepping.{RanLocally, StepsLocally}
use Rattle.dv_words.specs.declared.state.Frame.{Frame}
use Rattle.dv_words.specs.declared.state.Level.{Level}
use Rattle.dv_words.specs.declared.state.Level.TheVariants as level
use Rattle.dv_words.specs.Stacks.{changed, first}
use Rattle.dv_words.specs.State.{WordStack}

-- the frame on top became another one in a given way, and all else is as before
pub record TopBecame (Becomes : Frame → Frame → Type 0) (s : Frame) (old new : WordStack) : Type 0 where
  pub frame : Frame
  pub becomes : Becomes s frame
  pub only_top : new ≡ changed (λ f. frame) old

-- a step of the frame on top; where that isn't code, nothing is done
abbrev pub SteppedAtLevel : Image → Bool → Option Level → WordStack → WordStack → Type 0
SteppedAtLevel image done (Some (level.Code s)) old new = TopBecame (StepsLocally image done) s old new
SteppedAtLevel image done l old new = (done ≡ false) × (new ≡ old)

abbrev pub StepsTop : Image → Bool → WordStack → WordStack → Type 0
StepsTop image done old new = SteppedAtLevel image done (first old.levels) old new

-- so many steps of the frame on top, at most so many
abbrev pub RanAtLevel : Image → ℕ → ℕ → Option Level → WordStack → WordStack → Type 0
RanAtLevel image most done (Some (level.Code s)) old new = TopBecame (RanLocally image most done) s old new
RanAtLevel image most done l old new = (done ≡ 0) × (new ≡ old)

abbrev pub RanTop : Image → ℕ → ℕ → WordStack → WordStack → Type 0
RanTop image most done old new = RanAtLevel image most done (first old.levels) old new
