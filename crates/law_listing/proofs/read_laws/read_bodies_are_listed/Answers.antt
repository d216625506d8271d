use Rattle.std.proofs.lemmas.Result.{IfOk-at_ok}
use Rattle.law_listing.specs.DraftListable.{IsListedDraft}
use Rattle.law_listing.proofs.ReadBody.{body_listed}
use Rattle.law_listing.proofs.read_laws.read_bodies_are_listed.Goals as goal

pub returns : goal.returns
returns c arguments past annotations ls d are read =
    let laws = c.printed_references_are_read.ensures in
    IfOk-at_ok IsListedDraft read (body_listed laws.types laws.prototypes arguments past annotations ls are)
