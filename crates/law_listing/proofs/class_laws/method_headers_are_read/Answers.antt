use Rattle.law_listing.proofs.ClassPieces.Text.{method_header_stands}
use Rattle.law_listing.proofs.ClassPieces.Read.{method_header_read}
use Rattle.law_listing.proofs.class_laws.method_headers_are_read.Goals as goal

pub returns-clause-stand : goal.returns-clause-stand
returns-clause-stand c = method_header_stands

pub returns-clause-read : goal.returns-clause-read
returns-clause-read c = method_header_read c.printed_references_are_read.ensures.prototypes
