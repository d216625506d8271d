use Rattle.test_machine.proofs.Computed.Classes as facts
use Rattle.test_machine.proofs.initialising.Goals as goal

pub returns : goal.returns
returns c = record { examples = facts.initialising }
