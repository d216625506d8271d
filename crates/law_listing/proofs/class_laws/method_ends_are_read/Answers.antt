use Rattle.law_listing.proofs.ClassPieces.Text.{method_end_stands}
use Rattle.law_listing.proofs.ClassPieces.Read.{method_end_read}
use Rattle.law_listing.proofs.class_laws.method_ends_are_read.Goals as goal

pub returns-clause-stand : goal.returns-clause-stand
returns-clause-stand c = method_end_stands

pub returns-clause-read : goal.returns-clause-read
returns-clause-read c = method_end_read
