-- What is on top of a stack, and what a push and the start of a record make of one.
use Rattle.std.specs.Prelude.{◌≡◌, ℕ, true, List, ◌∷◌, Option, Some, None, Result, Ok, Err}
use Rattle.dv_words.specs.declared.state.Frame.{Frame}
use Rattle.dv_words.specs.declared.state.Level.{Level}
use Rattle.dv_words.specs.declared.state.Level.TheVariants as level
use Rattle.dv_words.specs.State.{WordStack}
use Rattle.dv_words.specs.Stacks.{pushed, with_levels}
use Rattle.dv_frames.specs.declared.heads.Head.{Head}
use Rattle.dv_frames.specs.declared.levels.Top.{Top}
use Rattle.dv_frames.specs.declared.levels.Top.TheVariants as top
use Rattle.dv_frames.specs.declared.stack.Full.{Full}
use Rattle.dv_frames.specs.Heads.{head_in}

-- the level without its words
abbrev pub top_of : Option Level → Option Top
top_of None = None
top_of (Some (level.Code f)) = Some (top.Code f.method f.at)
top_of (Some (level.Init c r)) = Some (top.Init c r)

-- the head of a frame, none where that isn't code
abbrev pub head_of : Option Level → Option Head
head_of (Some (level.Code f)) = Some (head_in f)
head_of l = None

abbrev pub IsCode : Option Level → Type 0
IsCode (Some (level.Code f)) = Unit {0}
IsCode l = ⊥

-- the record on top is running from now on
abbrev pub started : WordStack → WordStack
started s = with_levels s (running s.levels)
  where
    running : List Level → List Level
    running (level.Init c r ∷ ls) = level.Init c true ∷ ls
    running ls = ls

-- a push leaves the stack with this level on top, or finds it full and leaves it as it was
abbrev pub IsPushed : Result (Unit {0}) Full → WordStack → Level → WordStack → Type 0
IsPushed (Ok u) s l t = pushed s l ≡ Some t
IsPushed (Err e) s l t = (pushed s l ≡ None) × (t ≡ s)

-- at another address, with all else as before
abbrev pub moved : Frame → ℕ → Frame
moved f to = record { method = f.method; at = to; regs = f.regs; result = f.result; caught = f.caught }
