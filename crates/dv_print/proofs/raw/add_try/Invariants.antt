use Rattle.std.proofs.Common.{◌≡◌, ◌++◌, take}
use Rattle.std.specs.List.{flat_map}
use Rattle.dv_print.specs.Raw.{handler_line}
use Rattle.dv_print.proofs.raw.add_try.Given as goal

abbrev pub invariant-loop-handler : goal.invariant-loop-handler
invariant-loop-handler l = l.text.items ≡ l.fn.text.items ++ flat_map (handler_line l.types l.entry) (take l.handler-index l.handler-items)
