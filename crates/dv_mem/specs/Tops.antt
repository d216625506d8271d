-- What an operation sees of a stack, and what its answer leaves.
use Rattle.std.specs.Prelude.{ℕ, [], ◌∷◌, List, None, Ok}
use Rattle.std.specs.declared.alloc.AllocError.{AllocError}
use Rattle.dv_defs.specs.declared.run.Next.{Next}
use Rattle.dv_defs.specs.Images.{Image}
use Rattle.dv_machine.specs.State.{Did}
use Rattle.dv_words.specs.declared.state.Frame.{Frame}
use Rattle.dv_words.specs.declared.state.Kept.TheVariants as kept
use Rattle.dv_words.specs.declared.state.Level.{Level}
use Rattle.dv_words.specs.declared.state.Level.TheVariants as level
use Rattle.dv_words.specs.State.{WordHeap, WordStack}
use Rattle.dv_words.specs.Mem.{WordHere, WordLeft}
use Rattle.dv_words.specs.Stepping.{Answered}

abbrev pub no_frame : Frame
no_frame = record { method = record { 0 = 0 }; at = 0; regs = []; result = kept.None; caught = None }

-- the frame on top; where that isn't code, one without registers
abbrev pub frame_in : List Level → Frame
frame_in (level.Code f ∷ ls) = f
frame_in ls = no_frame

abbrev pub top_frame : WordStack → Frame
top_frame s = frame_in s.levels

-- what an operation sees
abbrev pub here : Image → Frame → WordHeap → ℕ → WordHere
here image f h next = record { image = image; frame = f; heap = h; next = next }

abbrev pub seen : Image → WordStack → WordHeap → ℕ → WordHere
seen image s h next = here image (top_frame s) h next

-- an answer that doesn't want memory
abbrev pub Answers : Next → Did WordLeft → WordStack → WordHeap → WordStack → WordHeap → Type 0
Answers answer d s h s' h' = Answered {E = AllocError} (Ok answer) d s h s' h'
