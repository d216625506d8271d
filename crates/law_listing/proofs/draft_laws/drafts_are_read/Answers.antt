use Rattle.law_listing.proofs.DraftTold as proof
use Rattle.law_listing.proofs.draft_laws.drafts_are_read.Goals as goal

pub returns : goal.returns
returns c = proof.draft_read c.instructions_are_read.ensures c.printed_references_are_read.ensures.types
