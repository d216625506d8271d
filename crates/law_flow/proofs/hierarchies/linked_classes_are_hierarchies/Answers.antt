-- The clause of `linked_classes_are_hierarchies`, by its lemma.
use Rattle.law_flow.proofs.HierarchyLaw.{linked_classes_are_hierarchies}
use Rattle.law_flow.proofs.hierarchies.linked_classes_are_hierarchies.Goals as goal

pub returns : goal.returns
returns c = record { law = linked_classes_are_hierarchies }
