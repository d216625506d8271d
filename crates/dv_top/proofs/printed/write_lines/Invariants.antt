use Rattle.std.proofs.Common.{◌≡◌, ◌≤◌, ◌++◌, take}
use Rattle.std.specs.List.{flat_map}
use Rattle.dv_io.specs.Io.{after_write}
use Rattle.dv_top.proofs.printed.write_lines.Given as goal

abbrev pub invariant-loop-tail : goal.invariant-loop-tail
invariant-loop-tail g l =
    (g.K.Sink.taken l.sink ≡ after_write (flat_map (λ t. l.method.head ++ t) (take l.tail-index l.method.tails.items)) (g.K.Sink.taken l.initial.sink)) ×
    (g.K.Sink.faults l.initial.sink ≤ g.K.Sink.faults l.sink)
