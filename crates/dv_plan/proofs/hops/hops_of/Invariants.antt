use Rattle.dv_bases.specs.Bases.{IsWider}
use Rattle.dv_plan.specs.Hops.{AreHops}
use Rattle.dv_plan.proofs.hops.hops_of.Given as goal

abbrev pub invariant-loop-entry : goal.invariant-loop-entry
invariant-loop-entry l =
    record {
      wider : IsWider l.initial.bases l.bases;
      hops : AreHops l.bases l.body l.entry-index l.hops.items;
    }
