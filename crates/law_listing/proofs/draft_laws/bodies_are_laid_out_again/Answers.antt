use Rattle.law_listing.proofs.DraftAgain as proof
use Rattle.law_listing.proofs.draft_laws.bodies_are_laid_out_again.Goals as goal

pub returns : goal.returns
returns c = proof.laid_out_again c.instructions_are_read.ensures c.printed_references_are_read.ensures.types
