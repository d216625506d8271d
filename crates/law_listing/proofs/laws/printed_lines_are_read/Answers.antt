use Rattle.law_listing.proofs.Lines.{lines_read}
use Rattle.law_listing.proofs.laws.printed_lines_are_read.Goals as goal

pub returns : goal.returns
returns c = lines_read
