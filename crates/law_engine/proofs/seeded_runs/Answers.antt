-- The clauses of `seeded_runs`, by their lemmas.
use Rattle.law_engine.proofs.Picked.{seed_picks_runnable}
use Rattle.law_engine.proofs.Seeded.{seed_begins, seed_ends, seed_goes_on}
use Rattle.law_engine.proofs.seeded_runs.Goals as goal

pub returns : goal.returns
returns c = record { begins = seed_begins; picks = seed_picks_runnable; goes_on = seed_goes_on; ends = seed_ends }
