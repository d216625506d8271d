-- What goes on along edges.
use Rattle.std.specs.Prelude.{ℕ, Some, None}
use Rattle.dv_worklist.specs.Flow.{Onward}
use Rattle.dv_typing.specs.declared.typing.RegState.{RegState}
use Rattle.dv_typing.specs.Flow.{caught_state}
use Rattle.dv_rules.specs.declared.flow.Edge.{Edge}
use Rattle.dv_worklist.specs.Beside.{Kept, kept}
use Rattle.dv_bases.specs.Bases.{Names, type_of}
use Rattle.dv_plan.specs.declared.hops.Hop.{Hop}

-- the state before with what is caught goes on to a handler, the state after elsewhere
abbrev pub gone_along : RegState → RegState → Edge → Onward RegState
gone_along before after e =
    record {
      to = e.to;
      state = elim e.handler [
        | None ↦ after
        | Some t ↦ caught_state before (record { ty = Some t; to = e.to })
      ];
    }

-- a target, and a handler, with the state that goes on there
abbrev pub to_target : Names → RegState → ℕ → Onward (Kept RegState Names)
to_target names after to = record { to = to; state = kept names after }

abbrev pub to_handler : Names → RegState → Hop → Onward (Kept RegState Names)
to_handler names before h = record { to = h.to; state = kept names (caught_state before (record { ty = Some (type_of names h.caught); to = h.to })) }
