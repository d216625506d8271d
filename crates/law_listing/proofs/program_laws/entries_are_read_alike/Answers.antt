use Rattle.law_listing.proofs.Programs.Alike.{entries_alike}
use Rattle.law_listing.proofs.program_laws.entries_are_read_alike.Goals as goal

pub returns : goal.returns
returns c = entries_alike
