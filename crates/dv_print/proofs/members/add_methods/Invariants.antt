use Rattle.std.proofs.Common.{◌≡◌, ◌++◌, take}
use Rattle.std.specs.List.{flat_map}
use Rattle.dv_print.specs.Listing.{method_lines}
use Rattle.dv_print.proofs.members.add_methods.Given as goal

abbrev pub invariant-loop-method : goal.invariant-loop-method
invariant-loop-method l = l.text.items ≡ l.fn.text.items ++ flat_map method_lines (take l.method-index l.methods)
