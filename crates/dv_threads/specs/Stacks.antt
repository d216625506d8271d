-- The stacks of threads.
use Rattle.std.specs.Prelude.{ℕ, zero, suc, List, [], ◌∷◌}
use Rattle.dv_words.specs.declared.state.Frame.{Frame}
use Rattle.dv_words.specs.Stacks.{changed}
use Rattle.dv_words.specs.State.{WordStack}

-- the frame on top of this thread's stack is changed, where there is one
abbrev pub changed_at : List WordStack → ℕ → (Frame → Frame) → List WordStack
changed_at [] t g = []
changed_at (s ∷ ss) zero g = changed g s ∷ ss
changed_at (s ∷ ss) (suc t) g = s ∷ changed_at ss t g
