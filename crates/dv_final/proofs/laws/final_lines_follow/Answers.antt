-- The clause of `final_lines_follow`, by its lemma.
use Rattle.dv_final.proofs.Following.{follow}
use Rattle.dv_final.proofs.laws.final_lines_follow.Goals as goal

pub returns : goal.returns
returns c = record { law = follow c.running_follows.ensures.law c.linked_messages_are_strings.ensures.law }
