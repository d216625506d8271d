-- The laws that tie the worklist's least assignment to typings, as statements.
use Rattle.std.specs.Prelude.{◌≡◌, ℕ, suc, zero, List, [], ◌++◌, length, Option}
use Rattle.dv_worklist.specs.Flow as worklist
use Rattle.dv_worklist.specs.Flow.{AllFit, IsLawful, assigned}
use Rattle.dv_defs.specs.declared.faults.Fault.{Fault}
use Rattle.dv_typing.specs.declared.typing.RegState.{RegState}
use Rattle.dv_defs.specs.Images.{Image}
use Rattle.dv_defs.specs.Op.{Code}
use Rattle.dv_typing.specs.Statics.{fetch}
use Rattle.dv_typing.specs.Flow.{Typing, IsTyping, IsLeast}
use Rattle.dv_typing.specs.Accepting.{demand_at, fault_at, typing_faults}
use Rattle.law_infer.specs.Flowing.{flow_of, fits_at, rank_of, top_of, IsReady}

-- the flow of a method's states is what the worklist asks
abbrev pub FlowsAreLawful : Type 0
FlowsAreLawful =
    (image : Image) (code : Code) → IsReady image code →
    IsLawful (flow_of image code) (fits_at image code) (rank_of image code) (top_of image code)

-- its least closed assignment is the method's
abbrev pub LeastAssignmentsAreLeast : Type 0
LeastAssignmentsAreLeast =
    (image : Image) (code : Code) → IsReady image code → (xs : List (Option RegState)) →
    AllFit (fits_at image code) (assigned xs) → worklist.IsLeast (flow_of image code) (assigned xs) →
    IsLeast image code (assigned xs)

-- what a state at an address breaks
abbrev pub faults_here : Image → Code → Typing → ℕ → List Fault
faults_here image code typing at = fault_at code.method.id at (demand_at image code (fetch image code.method.id at) (typing at))

-- ... at so many addresses from one on
abbrev pub faults_from : Image → Code → Typing → ℕ → ℕ → List Fault
faults_from image code typing at zero = []
faults_from image code typing at (suc n) = faults_here image code typing at ++ faults_from image code typing (suc at) n

-- address by address, the faults are those of the instructions
abbrev pub FaultsAreByAddress : Type 0
FaultsAreByAddress =
    (image : Image) (code : Code) → IsReady image code → (xs : List (Option RegState)) → AllFit (fits_at image code) (assigned xs) →
    faults_from image code (assigned xs) 0 (length code.body.units) ≡ typing_faults image code (assigned xs) code.tiles

-- a least assignment without faults is a typing
abbrev pub NoFaultsGiveTypings : Type 0
NoFaultsGiveTypings =
    (image : Image) (code : Code) → IsReady image code → (typing : Typing) → IsLeast image code typing →
    typing_faults image code typing code.tiles ≡ [] → IsTyping image code typing

-- and where it has one, there is no typing
abbrev pub FaultsRefuseTypings : Type 0
FaultsRefuseTypings =
    (image : Image) (code : Code) → IsReady image code → (typing : Typing) → IsLeast image code typing →
    (typing_faults image code typing code.tiles ≡ [] → ⊥) → (other : Typing) → IsTyping image code other → ⊥
