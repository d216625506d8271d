use Rattle.std.proofs.Common.{◌≡◌, ◌++◌, take}
use Rattle.dv_defs.specs.Images.{Image}
use Rattle.dv_vtable.specs.Numbered.{numbers_of}
use Rattle.dv_vtable.specs.Rows.{itself_row}
use Rattle.dv_vtable.specs.Sources.{IsOf}
use Rattle.dv_vtable.proofs.rows.Row.add_chain.Given as goal

abbrev pub invariant-loop-number : goal.invariant-loop-number
invariant-loop-number l = record {
  selects : (image : Image) → IsOf l.sources image → l.self.selects.items ≡ l.initial.self.selects.items ++ itself_row image (take l.number-index l.chain);
  numbers : l.self.numbers.items ≡ l.initial.self.numbers.items ++ numbers_of (take l.number-index l.chain);
}
