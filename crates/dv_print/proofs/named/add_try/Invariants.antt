use Rattle.std.proofs.Common.{◌≡◌, ◌++◌, ◌∷◌, map, take}
use Rattle.dv_print.specs.Named.{handler_address}
use Rattle.dv_print.proofs.named.add_try.Given as goal

abbrev pub invariant-loop-handler : goal.invariant-loop-handler
invariant-loop-handler l = l.named.items ≡ l.fn.named.items ++ (l.entry.start ∷ l.entry.end ∷ map handler_address (take l.handler-index l.handler-items))
