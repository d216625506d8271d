use Rattle.law_output.proofs.Steps.{entries_print}
use Rattle.law_output.proofs.entries_print_on.Goals as goal

pub returns : goal.returns
returns c = record { law = entries_print }
