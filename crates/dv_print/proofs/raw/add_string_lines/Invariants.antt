use Rattle.std.proofs.Common.{◌≡◌, ◌++◌, take}
use Rattle.std.specs.List.{flat_map}
use Rattle.dv_print.specs.Raw.{string_line}
use Rattle.dv_print.proofs.raw.add_string_lines.Given as goal

abbrev pub invariant-loop-chars : goal.invariant-loop-chars
invariant-loop-chars l = l.text.items ≡ l.fn.text.items ++ flat_map string_line (take l.chars-index l.strings)
