-- The clauses of `looked_up_objects_are_added`, each by its lemma.
use Rattle.law_machine.proofs.lemmas.Heap.Interned.{string_is_interned, class_object_is_got}
use Rattle.law_machine.proofs.heap.looked_up_objects_are_added.Goals as goal

pub returns-clause-string : goal.returns-clause-string
returns-clause-string c = string_is_interned

pub returns-clause-class : goal.returns-clause-class
returns-clause-class c = class_object_is_got
