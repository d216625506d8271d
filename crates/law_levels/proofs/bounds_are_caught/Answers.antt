use Rattle.law_levels.proofs.Bounds as laws
use Rattle.law_levels.proofs.bounds_are_caught.Goals as goal

pub returns : goal.returns
returns c = record { law = laws.bounds_are_caught }
