use Rattle.std.proofs.lemmas.List.Elements.{All-weaker}
use Rattle.law_listing.specs.ClassListable.{IsListedClass}
use Rattle.law_listing.specs.ReadLaws.{IsReadAgain}
use Rattle.law_listing.proofs.read_laws.read_classes_are_read_again.Goals as goal

pub returns : goal.returns
returns c schedule text r read =
    All-weaker IsListedClass IsReadAgain c.listings_are_read.ensures r.classes (c.read_classes_are_listed.ensures schedule text r read)
