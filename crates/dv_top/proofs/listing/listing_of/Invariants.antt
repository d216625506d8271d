use Rattle.std.proofs.Common.{◌≡◌, take, flat_map}
use Rattle.dv_print.specs.Listing.{class_text}
use Rattle.dv_top.proofs.listing.listing_of.Given as goal

abbrev pub invariant-loop-class : goal.invariant-loop-class
invariant-loop-class l = l.text.items ≡ flat_map class_text (take l.class-index l.classes)
