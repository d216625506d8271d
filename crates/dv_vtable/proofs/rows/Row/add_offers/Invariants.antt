use Rattle.std.proofs.Common.{◌≡◌, ◌++◌, [], take}
use Rattle.dv_defs.specs.Images.{Image}
use Rattle.dv_vtable.specs.Choosing.{AreMarked}
use Rattle.dv_vtable.specs.Numbered.{numbers_of}
use Rattle.dv_vtable.specs.Rows.{chosen_row}
use Rattle.dv_vtable.specs.Sources.{IsOf}
use Rattle.dv_vtable.proofs.rows.Row.add_offers.Given as goal

abbrev pub invariant-loop-place : goal.invariant-loop-place
invariant-loop-place l = record {
  marks : AreMarked l.marks [];
  selects : (image : Image) → IsOf l.sources image → l.self.selects.items ≡ l.initial.self.selects.items ++ chosen_row image (take l.place l.offers.entries);
  numbers : l.self.numbers.items ≡ l.initial.self.numbers.items ++ numbers_of (take l.place l.offers.entries);
}
