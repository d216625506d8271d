use Rattle.law_listing.proofs.DraftText as proof
use Rattle.law_listing.proofs.draft_laws.drafts_are_printed.Goals as goal

pub returns : goal.returns
returns c = proof.draft_printed c.instructions_are_read.ensures
