use Rattle.law_listing.proofs.ClassPieces.Text.{interface_stands}
use Rattle.law_listing.proofs.ClassPieces.Read.{interface_line_read}
use Rattle.law_listing.proofs.class_laws.interface_lines_are_read.Goals as goal

pub returns-clause-stand : goal.returns-clause-stand
returns-clause-stand c = interface_stands

pub returns-clause-read : goal.returns-clause-read
returns-clause-read c = interface_line_read c.printed_references_are_read.ensures.types
