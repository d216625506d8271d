-- The clause of `operands_stand`, by its lemma.
use Rattle.dv_mem.proofs.Typed.{operands_stand as by_lemma}
use Rattle.dv_mem.proofs.laws.operands_stand.Goals as goal

pub returns : goal.returns
returns c = record { law = by_lemma }
