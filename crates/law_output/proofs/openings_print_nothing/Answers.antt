use Rattle.std.proofs.Common.{refl}
use Rattle.law_output.proofs.openings_print_nothing.Goals as goal

pub returns : goal.returns
returns c = record { law = λ image main l. refl }
