-- The edges from an instruction by why control takes them.
use Rattle.std.specs.Prelude.{ℕ, true, false, List, [], ◌∷◌, map, filter}
use Rattle.dv_defs.specs.Images.{Image}
use Rattle.dv_defs.specs.Tiling.{begins_insn}
use Rattle.dv_defs.specs.Op.{Op, Code, can_throw}
use Rattle.dv_typing.specs.Statics.{At}
use Rattle.dv_typing.specs.Demands.{goes_on}
use Rattle.dv_typing.specs.Flow.{targets, handlers_at, thrown_at}
use Rattle.dv_rules.specs.declared.flow.Edge.{Edge}
use Rattle.dv_rules.specs.Edges.{plain_edge, handler_edge}

-- to the next address, where control goes on and an instruction begins there
abbrev pub edges_onward : Code → Op → ℕ → List Edge
edges_onward code op next = elim (goes_on op) [ true ↦ map plain_edge (filter (begins_insn code.tiles) (next ∷ [])) | false ↦ [] ]

-- to the next instruction and to targets
abbrev pub target_edges : Code → At → List Edge
target_edges code x = map plain_edge (filter (begins_insn code.tiles) (targets x))

-- to the handlers, where the instruction can throw
abbrev pub edges_thrown : Image → Code → ℕ → At → List Edge
edges_thrown image code at x =
    elim (can_throw x.op) [
      | true ↦ map handler_edge (handlers_at image code.method.id (thrown_at at x))
      | false ↦ []
    ]
