-- The clauses of `stores_keep`, each by its lemma.
use Rattle.law_machine.proofs.lemmas.Heap.Stored.{store_keeps, static_store_keeps}
use Rattle.law_machine.proofs.heap.stores_keep.Goals as goal

pub returns-clause-cell : goal.returns-clause-cell
returns-clause-cell c = store_keeps

pub returns-clause-field : goal.returns-clause-field
returns-clause-field c = static_store_keeps
