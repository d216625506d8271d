-- The frame to which a return goes back.
use Rattle.std.specs.Prelude.{◌≡◌, List, ◌∷◌, Option, Some, None}
use Rattle.dv_defs.specs.Images.{Image}
use Rattle.dv_typing.specs.Statics.{At, fetch}
use Rattle.dv_words.specs.declared.state.Frame.{Frame}
use Rattle.dv_words.specs.declared.state.Kept.{Kept}
use Rattle.dv_words.specs.declared.state.Level.{Level}
use Rattle.dv_words.specs.declared.state.Level.TheVariants as level
use Rattle.dv_words.specs.Stacks.{given, gone}
use Rattle.dv_words.specs.Steps as steps

-- the frame on top, if there is one, goes on at an instruction
abbrev pub TopStands : Image → List Level → Type 0
TopStands image (level.Code g ∷ ls) = (x : At) × (fetch image g.method.0 g.at ≡ Some x)
TopStands image ls = Unit {0}

-- the caller stands at its invoke
abbrev pub CallerStands : steps.At → Type 0
CallerStands h = TopStands h.image h.rest

-- on after the instruction, with a result
abbrev pub resumed_at : Kept → Frame → Option At → Frame
resumed_at k g None = g
resumed_at k g (Some x) = given (gone g x.next) k

-- a frame on top takes a result; a record takes none
abbrev pub resumed : Image → Kept → List Level → List Level
resumed image k (level.Code g ∷ ls) = level.Code (resumed_at k g (fetch image g.method.0 g.at)) ∷ ls
resumed image k ls = ls
