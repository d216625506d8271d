-- The instruction that follows one in straight code.
use Rattle.std.specs.Prelude.{ℕ, true, false, List, [], ◌∷◌, Option, Some, None}
use Rattle.law_blocks.specs.Blocks.{is_before}
use Rattle.dv_plan.specs.declared.marks.Mark.{Mark}
use Rattle.dv_plan.specs.Marks.{before_by}

-- an address, where the other is the one before it
abbrev pub follows_if : List Mark → ℕ → ℕ → Option ℕ
follows_if marks at to = elim (is_before at (before_by marks to)) [ true ↦ Some to | false ↦ None ]

-- the only target, where it follows
abbrev pub follows_in : List Mark → List ℕ → ℕ → Option ℕ
follows_in marks [] at = None
follows_in marks (to ∷ []) at = follows_if marks at to
follows_in marks (to ∷ t ∷ tos) at = None
