-- The clauses of `objects_are_added`, each by its lemma.
use Rattle.law_machine.proofs.lemmas.Heap.Added.{object_is_added, array_is_added, string_is_added}
use Rattle.law_machine.proofs.heap.objects_are_added.Goals as goal

pub returns-clause-object : goal.returns-clause-object
returns-clause-object c = object_is_added

pub returns-clause-array : goal.returns-clause-array
returns-clause-array c = array_is_added

pub returns-clause-string : goal.returns-clause-string
returns-clause-string c = string_is_added
