use Rattle.law_output.proofs.Steps.{turns_print}
use Rattle.law_output.proofs.turns_print_on.Goals as goal

pub returns : goal.returns
returns c = record { law = turns_print }
