use Rattle.law_listing.proofs.DraftCounts as proof
use Rattle.law_listing.proofs.draft_laws.draft_lines_count.Goals as goal

pub returns : goal.returns
returns c = proof.lines_count c.instructions_are_read.ensures
