use Rattle.std.proofs.Common.{◌≡◌, drop}
use Rattle.dv_typing.specs.Accepting.{handlers_good}
use Rattle.dv_ops.specs.Meaning.{code_of}
use Rattle.dv_static.proofs.tries.are_good_handlers.Given as goal

-- the handlers are good just where those from here on are
abbrev pub invariant-loop-i : goal.invariant-loop-i
invariant-loop-i l = handlers_good l.image (code_of l.code) (drop l.i l.handlers) ≡ handlers_good l.image (code_of l.code) l.handlers
