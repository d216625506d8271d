use Rattle.std.proofs.Common.{◌≡◌, ◌++◌}
use Rattle.dv_gen.specs.Demo.{calls_text}
use Rattle.dv_gen.proofs.program.add_calls.Given as goal

abbrev pub invariant-loop-place : goal.invariant-loop-place
invariant-loop-place l = l.text.items ≡ l.fn.text.items ++ calls_text l.place
