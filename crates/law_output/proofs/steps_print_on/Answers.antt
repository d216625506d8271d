use Rattle.law_output.proofs.Steps.{steps_print}
use Rattle.law_output.proofs.steps_print_on.Goals as goal

pub returns : goal.returns
returns c = record { law = steps_print }
