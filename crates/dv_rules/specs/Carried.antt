-- The state that flows along an edge.
use Rattle.std.specs.Prelude.{ℕ, Some, None}
use Rattle.dv_defs.specs.Images.{Image}
use Rattle.dv_typing.specs.declared.typing.RegState.{RegState}
use Rattle.dv_defs.specs.Pools.{Method}
use Rattle.dv_typing.specs.Statics.{At}
use Rattle.dv_typing.specs.Transfer.{out}
use Rattle.dv_typing.specs.Flow.{caught_state}
use Rattle.dv_rules.specs.declared.flow.Edge.{Edge}

-- to a handler the state before the instruction with what is caught, else the state after it
abbrev pub carried : Image → Method → ℕ → At → RegState → Edge → RegState
carried image m at x s e =
    elim e.handler [
      | None ↦ out image m at x.op s
      | Some t ↦ caught_state s (record { ty = Some t; to = e.to })
    ]
