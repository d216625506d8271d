use Rattle.std.proofs.lemmas.Result.{IfOk-at_ok}
use Rattle.law_listing.specs.RawListable.{IsListedRaw}
use Rattle.law_listing.proofs.ReadRaw.{raw_listed}
use Rattle.law_listing.proofs.read_laws.read_raw_bodies_are_listed.Goals as goal

pub returns : goal.returns
returns c past annotations ls b are read =
    let laws = c.printed_references_are_read.ensures in
    IfOk-at_ok IsListedRaw read (raw_listed laws.types laws.prototypes past annotations ls are)
