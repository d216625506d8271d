use Rattle.std.proofs.Common.{◌≡◌, ◌≤◌, take}
use Rattle.dv_io.specs.Io.{after_write}
use Rattle.dv_top.specs.Printed.{printed_lines}
use Rattle.dv_top.proofs.printed.write_methods.Given as goal

abbrev pub invariant-loop-method : goal.invariant-loop-method
invariant-loop-method g l =
    (g.K.Sink.taken l.sink ≡ after_write (printed_lines (take l.method-index l.methods)) (g.K.Sink.taken l.initial.sink)) ×
    (g.K.Sink.faults l.initial.sink ≤ g.K.Sink.faults l.sink)
