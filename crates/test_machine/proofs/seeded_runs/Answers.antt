use Rattle.test_machine.proofs.Computed.Seeded as facts
use Rattle.test_machine.proofs.seeded_runs.Goals as goal

pub returns : goal.returns
returns c = record { examples = facts.seeded_runs }
