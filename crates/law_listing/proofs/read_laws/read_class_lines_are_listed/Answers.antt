use Rattle.std.proofs.lemmas.Result.{IfOk-at_ok}
use Rattle.law_listing.specs.ReadLaws.{IsClassLineText}
use Rattle.law_listing.proofs.ReadClass.{line_listed}
use Rattle.law_listing.proofs.read_laws.read_class_lines_are_listed.Goals as goal

pub returns : goal.returns
returns c s n ps l are read =
    let laws = c.printed_references_are_read.ensures in
    IfOk-at_ok IsClassLineText read (line_listed laws.types laws.prototypes s n ps are)
