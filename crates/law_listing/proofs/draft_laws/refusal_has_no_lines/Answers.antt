use Rattle.law_listing.proofs.Accepted as accepted
use Rattle.law_listing.proofs.draft_laws.refusal_has_no_lines.Goals as goal

pub returns : goal.returns
returns c = accepted.refusal_has_no_lines
