use Rattle.std.proofs.Common.{◌≡◌, ◌++◌}
use Rattle.dv_gen.specs.Demo.{classes_text}
use Rattle.dv_gen.proofs.program.add_classes.Given as goal

abbrev pub invariant-loop-place : goal.invariant-loop-place
invariant-loop-place l = l.text.items ≡ l.fn.text.items ++ classes_text l.number l.place
