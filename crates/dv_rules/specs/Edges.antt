-- The edges along which states flow from an instruction.
use Rattle.std.specs.Prelude.{ℕ, true, false, List, [], ◌++◌, map, filter, Some, None}
use Rattle.dv_defs.specs.Images.{Image}
use Rattle.dv_defs.specs.Tiling.{begins_insn}
use Rattle.dv_defs.specs.Op.{Code, can_throw}
use Rattle.dv_typing.specs.Statics.{At}
use Rattle.dv_typing.specs.Flow.{Catcher, targets, handlers_at, thrown_at, caught_as}
use Rattle.dv_rules.specs.declared.flow.Edge.{Edge}

abbrev pub plain_edge : ℕ → Edge
plain_edge to = record { to = to; handler = None }

-- an edge to a handler has the type that is caught
abbrev pub handler_edge : Catcher → Edge
handler_edge h = record { to = h.to; handler = Some (caught_as h.ty) }

-- to the targets that are instructions, and, where the instruction can throw, to the handlers that are
abbrev pub edges_of : Image → Code → ℕ → At → List Edge
edges_of image code at x =
    map plain_edge (filter (begins_insn code.tiles) (targets x)) ++
    elim (can_throw x.op) [
      | true ↦ map handler_edge (filter (λ h. begins_insn code.tiles h.to) (handlers_at image code.method.id (thrown_at at x)))
      | false ↦ []
    ]
