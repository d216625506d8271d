use Rattle.std.proofs.Common.{◌≡◌, take}
use Rattle.dv_builtin.proofs.units.write_bytes.Given as goal

abbrev pub invariant-loop-place : goal.invariant-loop-place
invariant-loop-place l = take l.place l.units ≡ take l.place l.bytes
