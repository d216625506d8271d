-- The clause of `words_pend`, by its lemma.
use Rattle.law_machine.proofs.calls.words_pend.Goals as goal
use Rattle.law_machine.proofs.lemmas.Readers.Words.{words_pend}

pub returns : goal.returns
returns c = record { law = words_pend }
