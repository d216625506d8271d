use Rattle.dv_ops.specs.Meaning.{code_of}
use Rattle.dv_bases.specs.Bases.{IsWider}
use Rattle.dv_plan.specs.Steps.{AreStepsTo}
use Rattle.dv_plan.proofs.steps.steps_of.Given as goal

abbrev pub invariant-loop-at : goal.invariant-loop-at
invariant-loop-at l =
    record {
      wider : IsWider l.initial.bases l.bases;
      steps : AreStepsTo l.image l.bases (code_of l.code) l.at l.steps.items;
    }
