use Rattle.std.proofs.Common.{◌≡◌, drop}
use Rattle.dv_typing.specs.Flow.{catchers}
use Rattle.dv_words.specs.Unwinding.{handler_for}
use Rattle.dv_throw.proofs.handlers.first_catching.Given as goal

-- no handler before catches the object, and none catches all
abbrev pub invariant-loop-handler : goal.invariant-loop-handler
invariant-loop-handler l = handler_for l.image l.heap l.object (catchers l.body l.handlers) ≡ handler_for l.image l.heap l.object (catchers l.body (drop l.handler-index l.handlers))
