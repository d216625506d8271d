use Rattle.std.proofs.Common.{◌≡◌, ◌≤◌, ◌-◌, length, take}
use Rattle.dv_io.specs.Io.{after_write}
use Rattle.dv_io.proofs.pouring.pour.Given as goal

abbrev pub invariant-write : goal.invariant-write
invariant-write g l =
    (l.taken ≤ length l.bytes) × (g.K.Sink.taken l.sink ≡ after_write (take l.taken l.bytes) (g.K.Sink.taken l.initial.sink)) × (g.K.Sink.faults l.initial.sink ≤ g.K.Sink.faults l.sink)

abbrev pub decreases-write : goal.decreases-write
decreases-write g l = length l.bytes - l.taken
