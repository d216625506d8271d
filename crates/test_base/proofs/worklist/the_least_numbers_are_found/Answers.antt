use Rattle.test_base.proofs.Numbers.{numbers_are_lawful}
use Rattle.test_base.proofs.worklist.the_least_numbers_are_found.Goals as goal

pub least-requires-clause-lawful : goal.least-requires-clause-lawful
least-requires-clause-lawful g c = numbers_are_lawful
