use Rattle.std.proofs.Common.{◌≡◌, ◌++◌, take}
use Rattle.std.specs.List.{flat_map}
use Rattle.dv_print.specs.Raw.{type_line}
use Rattle.dv_print.proofs.raw.add_type_lines.Given as goal

abbrev pub invariant-loop-ty : goal.invariant-loop-ty
invariant-loop-ty l = l.text.items ≡ l.fn.text.items ++ flat_map type_line (take l.ty-index l.types)
