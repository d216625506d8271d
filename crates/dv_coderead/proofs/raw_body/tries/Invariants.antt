use Rattle.dv_coderead.proofs.RawTries.{AreSoFar}
use Rattle.dv_coderead.proofs.raw_body.tries.Given as goal

abbrev pub invariant-loop-handler : goal.invariant-loop-handler
invariant-loop-handler l = AreSoFar l.types l.handlers l.handler-index l.tries.items
