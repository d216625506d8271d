use Rattle.std.proofs.Common.{◌≡◌, drop}
use Rattle.dv_coderead.specs.RawBodies.{with_caught}
use Rattle.dv_coderead.proofs.raw_body.add_caught.Given as goal

abbrev pub invariant-loop-handler : goal.invariant-loop-handler
invariant-loop-handler l = with_caught l.types (drop l.handler-index l.handlers) ≡ with_caught l.fn.types l.handlers
