use Rattle.law_listing.proofs.RawInside.{raw_inside, raw_is_raw}
use Rattle.law_listing.proofs.RawRead.{raw_read}
use Rattle.law_listing.proofs.RawText.{raw_lines}
use Rattle.law_listing.proofs.raw_laws.raw_bodies_are_read.Goals as goal

pub returns : goal.returns
returns c b is =
    let read = c.printed_references_are_read.ensures in
    record {
      lines = raw_lines b is;
      read = raw_read read.types read.fields read.methods b is;
      raw = raw_is_raw b;
      inside = raw_inside b is;
    }
