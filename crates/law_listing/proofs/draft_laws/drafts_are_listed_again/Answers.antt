use Rattle.law_listing.proofs.DraftAgain as proof
use Rattle.law_listing.proofs.draft_laws.drafts_are_listed_again.Goals as goal

pub returns : goal.returns
returns c = proof.listed_again
