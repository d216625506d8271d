use Rattle.law_listing.proofs.ReadPieces.{lines_text}
use Rattle.law_listing.proofs.read_laws.read_lines_are_texts.Goals as goal

pub returns : goal.returns
returns c = lines_text
