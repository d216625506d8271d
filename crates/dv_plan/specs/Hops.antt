-- The ways to handlers, with the classes that are caught by number.
use Rattle.std.specs.Prelude.{◌≡◌, ◌<◌, ℕ, Bool, List, [], length, map, Some, All, is_some, slice_get, slice_index_or}
use Rattle.dv_defs.specs.declared.code.Body.{Body}
use Rattle.dv_defs.specs.declared.code.Try.{Try}
use Rattle.dv_typing.specs.Flow.{catchers}
use Rattle.dv_rules.specs.declared.flow.Edge.{Edge}
use Rattle.dv_rules.specs.Edges.{handler_edge}
use Rattle.dv_bases.specs.Bases.{Names, type_of, IsNumbered}
use Rattle.dv_plan.specs.declared.hops.Hop.{Hop}

-- the edge that a hop is
abbrev pub hop_edge : Names → Hop → Edge
hop_edge names h = record { to = h.to; handler = Some (type_of names h.caught) }

abbrev pub has_handler : Edge → Bool
has_handler e = is_some e.handler

-- the hops are these edges
pub record LeadTo (names : Names) (hops : List Hop) (edges : List Edge) : Type 0 where
  pub numbered : All (λ h. IsNumbered names h.caught) hops
  pub lead : map (hop_edge names) hops ≡ edges

-- of each of the first so many try entries, the hops are the edges to its handlers
pub record AreHops (names : Names) (body : Body) (n : ℕ) (hops : List (List Hop)) : Type 0 where
  pub count : length hops ≡ n
  pub each : (k : ℕ) (entry : Try) → k < n → slice_get body.tries k ≡ Some entry → LeadTo names (slice_index_or hops k []) (map handler_edge (catchers body entry.handlers))
