use Rattle.std.proofs.Common.{◌≡◌, ◌++◌, map, take}
use Rattle.dv_print.specs.Drafting.{catch_of}
use Rattle.dv_print.proofs.handlers.add_catches.Given as goal

abbrev pub invariant-loop-handler : goal.invariant-loop-handler
invariant-loop-handler l = l.catches.items ≡ l.fn.catches.items ++ map (catch_of l.types l.entry) (take l.handler-index l.handler-items)
