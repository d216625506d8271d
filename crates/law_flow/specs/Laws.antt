-- The laws by which the least assignment is found, as statements.
use Rattle.std.specs.Prelude.{◌≡◌, ◌<◌, ◌⊎◌, ℕ, [], List, Some, All}
use Rattle.dv_defs.specs.declared.faults.Fault.{Fault}
use Rattle.dv_typing.specs.declared.typing.RegState.{RegState}
use Rattle.dv_defs.specs.Images.{Image}
use Rattle.dv_defs.specs.Linked.{IsImage}
use Rattle.dv_defs.specs.Names.{object_name}
use Rattle.dv_defs.specs.Pools.{class_named}
use Rattle.dv_defs.specs.Op.{Code, code_at}
use Rattle.dv_typing.specs.Statics.{At, fetch}
use Rattle.dv_typing.specs.RegTypes.{IsBelow}
use Rattle.dv_typing.specs.Transfer.{entry_state, out}
use Rattle.dv_typing.specs.Flow.{handlers_at, caught_state}
use Rattle.dv_typing.specs.Joins.{join_state}
use Rattle.dv_typing.specs.Accepting.{AreFaults, AreImageFaults, static_places}
use Rattle.law_types.specs.Hierarchy.{IsHierarchy}
use Rattle.law_flow.specs.Clean.{IsClean}
use Rattle.law_flow.specs.Fitting.{StateFits, dims_met, state_rank, state_ranks}

-- Object is there
abbrev pub HasObject : Image → Type 0
HasObject image = (o : ℕ) × (class_named image object_name ≡ Some o)

-- the classes of each image that linking gives are a hierarchy, with Object
abbrev pub LinkedClassesAreHierarchies : Type 0
LinkedClassesAreHierarchies = (image : Image) → IsImage image → IsHierarchy image × HasObject image

-- a body without static faults is clean
abbrev pub CleanBodies : Type 0
CleanBodies = (image : Image) (n : ℕ) (code : Code) → code_at image n ≡ Some code → static_places image code ≡ [] → (code.method.id ≡ n) × IsClean image code

-- two states under each other are one
abbrev pub StatesAreAntisymmetric : Type 0
StatesAreAntisymmetric = (image : Image) → IsHierarchy image → (s t : RegState) → IsBelow image s t → IsBelow image t s → s ≡ t

-- what is above another state ranks less
abbrev pub StatesRiseInRank : Type 0
StatesRiseInRank =
    (image : Image) → IsHierarchy image → HasObject image → (code : Code) (s t : RegState) → StateFits image code s →
    StateFits image code t → IsBelow image s t →
    (s ≡ t) ⊎ (state_rank image (dims_met image code) t < state_rank image (dims_met image code) s)

-- ranks are bounded
abbrev pub RanksAreBounded : Type 0
RanksAreBounded =
    (image : Image) → IsHierarchy image → (code : Code) (s : RegState) → StateFits image code s →
    state_rank image (dims_met image code) s < state_ranks image (dims_met image code) code.body.registers

-- what fits: the join of two states, the state on entry, and what goes on
abbrev pub JoinsFit : Type 0
JoinsFit =
    (image : Image) (code : Code) (s t : RegState) → StateFits image code s → StateFits image code t →
    StateFits image code (join_state image s t)

abbrev pub EntriesFit : Type 0
EntriesFit =
    (image : Image) (code : Code) → code_at image code.method.id ≡ Some code → IsClean image code →
    StateFits image code (entry_state image code.method code.body.registers)

abbrev pub TransferFits : Type 0
TransferFits =
    (image : Image) (code : Code) → code_at image code.method.id ≡ Some code → IsClean image code → (at : ℕ) (x : At) →
    fetch image code.method.id at ≡ Some x → (s : RegState) → StateFits image code s → StateFits image code (out image code.method at x.op s)

abbrev pub CaughtStatesFit : Type 0
CaughtStatesFit =
    (image : Image) (code : Code) → code_at image code.method.id ≡ Some code → IsClean image code → (at : ℕ) (s : RegState) →
    StateFits image code s → All (λ h. StateFits image code (caught_state s h)) (handlers_at image code.method.id at)

-- one list of faults at most is a method's, and one an image's
abbrev pub FaultsAreOne : Type 0
FaultsAreOne = (image : Image) → IsHierarchy image → (code : Code) (fs gs : List Fault) → AreFaults image code fs → AreFaults image code gs → fs ≡ gs

abbrev pub ImageFaultsAreOne : Type 0
ImageFaultsAreOne = (image : Image) → IsHierarchy image → (fs gs : List Fault) → AreImageFaults image fs → AreImageFaults image gs → fs ≡ gs
