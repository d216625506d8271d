-- The head of a frame: all of it but its registers.
use Rattle.std.specs.Prelude.{ℕ, List, []}
use Rattle.dv_words.specs.declared.state.Frame.{Frame}
use Rattle.dv_frames.specs.declared.heads.Head.{Head}

-- the frame of a head with these registers
abbrev pub frame : Head → List ℕ → Frame
frame h regs = record { method = h.method; at = h.at; regs = regs; result = h.result; caught = h.caught }

abbrev pub head_in : Frame → Head
head_in f = record { method = f.method; at = f.at; result = f.result; caught = f.caught }

-- what becomes of a head where this becomes of its frame
abbrev pub on_head : (Frame → Frame) → Head → Head
on_head g h = head_in (g (frame h []))
