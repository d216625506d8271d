use Rattle.law_listing.proofs.ReadOps.{operands_listed}
use Rattle.law_listing.proofs.read_laws.read_operands_are_listed.Goals as goal

pub returns : goal.returns
returns c = let laws = c.printed_references_are_read.ensures in operands_listed laws.types laws.prototypes
