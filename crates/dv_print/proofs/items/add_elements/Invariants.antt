use Rattle.std.proofs.Common.{◌≡◌, ◌++◌}
use Rattle.std.specs.List.{flat_map}
use Rattle.dv_defs.specs.Numbers.{elements}
use Rattle.dv_print.specs.Draft.{element_line}
use Rattle.dv_print.proofs.items.add_elements.Given as goal

abbrev pub invariant-loop-left : goal.invariant-loop-left
invariant-loop-left l = l.text.items ++ flat_map (element_line l.width) (elements l.left l.width l.rest) ≡ l.fn.text.items ++ flat_map (element_line l.width) (elements l.count l.width l.bytes)

abbrev pub decreases-loop-left : goal.decreases-loop-left
decreases-loop-left l = l.left
