-- The clause of `demand_is_antitone`, by its lemma.
use Rattle.law_types.proofs.Satisfied.{demand_is_antitone}
use Rattle.law_types.proofs.demand_is_antitone.Goals as goal

pub returns : goal.returns
returns c = record { law = demand_is_antitone }
