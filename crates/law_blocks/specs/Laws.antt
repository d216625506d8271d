-- The laws of the flow from head to head, as statements.
use Rattle.std.specs.Prelude.{◌≡◌, ℕ}
use Rattle.dv_worklist.specs.Flow.{Assignment, AllFit, IsLawful, IsLeast}
use Rattle.dv_typing.specs.declared.typing.RegState.{RegState}
use Rattle.dv_defs.specs.Images.{Image}
use Rattle.dv_defs.specs.Op.{Code}
use Rattle.law_infer.specs.Flowing.{rank_of, top_of, IsReady}
use Rattle.law_gather.specs.Gathered.{gathered_flow, fits_gathered}
use Rattle.law_blocks.specs.Blocks.{Before, AreBefore, blocks_flow, fits_blocks, filled}

-- the flow from head to head is what the worklist asks
abbrev pub BlockFlowsAreLawful : Type 0
BlockFlowsAreLawful =
    (image : Image) (code : Code) (before : Before) → IsReady image code → AreBefore image code before →
    IsLawful (blocks_flow image code before) (fits_blocks image code before) (rank_of image code) (top_of image code)

-- its least assignment, filled in between, is that of the flow that gathers, and it fits there
abbrev pub BlockAssignmentsAreLeast : Type 0
BlockAssignmentsAreLeast =
    (image : Image) (code : Code) (before : Before) → IsReady image code → AreBefore image code before →
    (a : Assignment RegState) → AllFit (fits_blocks image code before) a → IsLeast (blocks_flow image code before) a →
    (c : Assignment RegState) → ((place : ℕ) → c place ≡ filled image code before a place) →
    IsLeast (gathered_flow image code) c × AllFit (fits_gathered image code) c
