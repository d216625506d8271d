use Rattle.std.proofs.Common.{take}
use Rattle.dv_bases.specs.Bases.{IsWider}
use Rattle.dv_plan.specs.Hops.{LeadTo}
use Rattle.dv_plan.proofs.hops.hops_along.Given as goal

abbrev pub invariant-loop-edge : goal.invariant-loop-edge
invariant-loop-edge l =
    record {
      wider : IsWider l.initial.bases l.bases;
      lead : LeadTo l.bases l.hops.items (take l.edge-index l.edges);
    }
