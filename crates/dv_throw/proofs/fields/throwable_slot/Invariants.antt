use Rattle.std.proofs.Common.{◌≡◌, drop}
use Rattle.dv_machine.specs.Unwinding.{slot_among, throwable_slot}
use Rattle.dv_throw.proofs.fields.throwable_slot.Given as goal

-- Throwable declares no field before of the name
abbrev pub invariant-loop-place : goal.invariant-loop-place
invariant-loop-place l = throwable_slot l.image l.name ≡ slot_among l.image l.class.0 l.name (drop l.place l.image.fields) l.place
