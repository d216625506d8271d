use Rattle.std.proofs.Common.{◌≡◌, ◌++◌, take}
use Rattle.std.specs.List.{flat_map}
use Rattle.dv_coderead.specs.Bodies.{element_bytes}
use Rattle.dv_coderead.proofs.drafting.add_bytes.Given as goal

abbrev pub invariant-loop-element : goal.invariant-loop-element
invariant-loop-element l = l.bytes.items ≡ l.fn.bytes.items ++ flat_map (element_bytes l.width) (take l.element-index l.elements)
