use Rattle.std.proofs.Common.{◌≡◌, ◌++◌, take}
use Rattle.std.specs.List.{flat_map}
use Rattle.dv_print.specs.Raw.{method_ref_line}
use Rattle.dv_print.proofs.raw.add_method_lines.Given as goal

abbrev pub invariant-loop-method : goal.invariant-loop-method
invariant-loop-method l = l.text.items ≡ l.fn.text.items ++ flat_map method_ref_line (take l.method-index l.methods)
