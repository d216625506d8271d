-- The clause of `linked_messages_are_strings`, by its lemma.
use Rattle.law_linked.proofs.BootMessage.{linked_messages_are_strings as by_lemma}
use Rattle.law_linked.proofs.linked_messages_are_strings.Goals as goal

pub returns : goal.returns
returns c = record { law = by_lemma }
