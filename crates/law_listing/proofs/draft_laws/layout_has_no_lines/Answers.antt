use Rattle.law_listing.proofs.Unlined as unlined
use Rattle.law_listing.proofs.draft_laws.layout_has_no_lines.Goals as goal

pub returns : goal.returns
returns c = unlined.layout_has_no_lines
