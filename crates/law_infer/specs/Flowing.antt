-- The states of a method as they flow from instruction to instruction.
use Rattle.std.specs.Prelude.{◌≡◌, ℕ, true, false, List, [], ◌++◌, length, map, filter, Option, Some, None}
use Rattle.dv_worklist.specs.Flow.{Onward, Flow}
use Rattle.dv_typing.specs.declared.typing.RegState.{RegState}
use Rattle.dv_defs.specs.Images.{Image}
use Rattle.dv_defs.specs.Tiling.{begins_insn}
use Rattle.dv_defs.specs.Op.{Code, code_at, can_throw}
use Rattle.dv_typing.specs.Statics.{At, fetch}
use Rattle.dv_typing.specs.Transfer.{entry_state, out}
use Rattle.dv_typing.specs.Flow.{Catcher, targets, handlers_at, thrown_at, caught_state}
use Rattle.dv_typing.specs.Joins.{join_state}
use Rattle.law_types.specs.Hierarchy.{IsHierarchy}
use Rattle.dv_types.specs.Under.{state_under}
use Rattle.law_flow.specs.Clean.{IsClean}
use Rattle.law_flow.specs.Fitting.{StateFits, dims_met, state_rank, state_ranks}
use Rattle.law_flow.specs.Laws.{HasObject}

-- the state after goes on to each target that is an instruction
abbrev pub goes_to : Code → RegState → List ℕ → List (Onward RegState)
goes_to code after tos = map (λ to. record { to = to; state = after }) (filter (begins_insn code.tiles) tos)

-- the state before, with what is caught, goes on to each handler that is
abbrev pub goes_to_handlers : Code → RegState → List Catcher → List (Onward RegState)
goes_to_handlers code before hs =
    map (λ h. record { to = h.to; state = caught_state before h }) (filter (λ h. begins_insn code.tiles h.to) hs)

abbrev pub onward_of : Image → Code → ℕ → RegState → At → List (Onward RegState)
onward_of image code at s x =
    goes_to code (out image code.method at x.op s) (targets x) ++
    elim (can_throw x.op) [
      | true ↦ goes_to_handlers code s (handlers_at image code.method.id (thrown_at at x))
      | false ↦ []
    ]

abbrev pub onward_from : Image → Code → ℕ → RegState → Option At → List (Onward RegState)
onward_from image code at s None = []
onward_from image code at s (Some x) = onward_of image code at s x

-- the flow of a method's states: its places are the addresses of its units
abbrev pub flow_of : Image → Code → Flow RegState
flow_of image code =
    record {
      size = length code.body.units;
      entry = entry_state image code.method code.body.registers;
      under = state_under image;
      join = join_state image;
      onward = λ at s. onward_from image code at s (fetch image code.method.id at);
    }

-- states stand at instructions
abbrev pub fits_at : Image → Code → ℕ → RegState → Type 0
fits_at image code at s = (begins_insn code.tiles at ≡ true) × StateFits image code s

abbrev pub rank_of : Image → Code → RegState → ℕ
rank_of image code s = state_rank image (dims_met image code) s

abbrev pub top_of : Image → Code → ℕ
top_of image code = state_ranks image (dims_met image code) code.body.registers

-- a body of a linked image that breaks no static rule
pub record IsReady (image : Image) (code : Code) : Type 0 where
  pub hierarchy : IsHierarchy image
  pub object : HasObject image
  pub code_is : code_at image code.method.id ≡ Some code
  pub clean : IsClean image code
