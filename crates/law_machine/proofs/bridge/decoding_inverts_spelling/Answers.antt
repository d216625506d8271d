-- The clause of `decoding_inverts_spelling`, by its lemma.
use Rattle.law_machine.proofs.lemmas.Bridge.Decoding.{decoding_inverts_spelling}
use Rattle.law_machine.proofs.bridge.decoding_inverts_spelling.Goals as goal

pub returns : goal.returns
returns c = record { law = decoding_inverts_spelling }
