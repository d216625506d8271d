use Rattle.std.proofs.Common.{◌≡◌, take}
use Rattle.std.specs.Prelude.{flat_map}
use Rattle.dv_defs.specs.Images.{Image}
use Rattle.dv_defs.specs.Order.{numbers}
use Rattle.dv_defs.specs.Selecting.{callable_of_class}
use Rattle.dv_vtable.specs.Numbered.{numbers_of}
use Rattle.dv_vtable.specs.Offers.{offered_to}
use Rattle.dv_vtable.specs.Sources.{IsOf}
use Rattle.dv_vtable.proofs.offering.offer_all.Given as goal

abbrev pub invariant-loop-interface : goal.invariant-loop-interface
invariant-loop-interface l = record {
  count : l.offers.count ≡ l.initial.offers.count;
  offers : (image : Image) → IsOf l.sources image
      → l.offers.entries ≡ offered_to image (numbers_of l.chain.entries) l.initial.offers.entries (flat_map (callable_of_class image) (numbers (take l.interface-index l.interfaces)));
}
