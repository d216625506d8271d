use Rattle.law_listing.proofs.Programs.Unlined.{same_texts}
use Rattle.law_listing.proofs.program_laws.listings_have_no_lines.Goals as goal

pub returns : goal.returns
returns c = same_texts
