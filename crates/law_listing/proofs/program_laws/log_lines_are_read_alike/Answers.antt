use Rattle.law_listing.proofs.Programs.LogLines.{lines_alike}
use Rattle.law_listing.proofs.program_laws.log_lines_are_read_alike.Goals as goal

pub returns : goal.returns
returns c = lines_alike c.entries_are_read_alike.ensures
