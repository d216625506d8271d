use Rattle.std.proofs.Common.{◌≡◌, drop}
use Rattle.dv_typing.specs.Flow.{handlers_of}
use Rattle.dv_throw.proofs.handlers.handlers_of.Given as goal

-- no try entry before covers the address
abbrev pub invariant-loop-entry : goal.invariant-loop-entry
invariant-loop-entry l = handlers_of l.body l.body.tries l.at ≡ handlers_of l.body (drop l.entry-index l.body.tries) l.at
