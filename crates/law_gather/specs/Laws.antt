-- The laws of the flow that gathers, as statements.
use Rattle.std.specs.Prelude.{List, Option, take}
use Rattle.dv_worklist.specs.Flow.{AllFit, IsLawful, IsLeast, assigned}
use Rattle.dv_typing.specs.declared.typing.RegState.{RegState}
use Rattle.dv_defs.specs.Images.{Image}
use Rattle.dv_defs.specs.Op.{Code}
use Rattle.law_infer.specs.Flowing.{flow_of, fits_at, rank_of, top_of, IsReady}
use Rattle.law_gather.specs.Gathered.{addresses, gathered_flow, fits_gathered}

-- the flow that gathers is what the worklist asks
abbrev pub GatheredFlowsAreLawful : Type 0
GatheredFlowsAreLawful =
    (image : Image) (code : Code) → IsReady image code →
    IsLawful (gathered_flow image code) (fits_gathered image code) (rank_of image code) (top_of image code)

-- the states of the instructions alone
abbrev pub at_instructions : Code → List (Option RegState) → List (Option RegState)
at_instructions code xs = take (addresses code) xs

-- its least assignment, cut to the instructions, is that of the flow that doesn't gather, and it fits there
abbrev pub GatheredAssignmentsAreLeast : Type 0
GatheredAssignmentsAreLeast =
    (image : Image) (code : Code) → IsReady image code → (xs : List (Option RegState)) →
    AllFit (fits_gathered image code) (assigned xs) → IsLeast (gathered_flow image code) (assigned xs) →
    IsLeast (flow_of image code) (assigned (at_instructions code xs)) × AllFit (fits_at image code) (assigned (at_instructions code xs))
