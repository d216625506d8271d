use Rattle.std.proofs.Common.{◌≡◌, drop}
use Rattle.dv_static.specs.Registers.{all_below}
use Rattle.dv_static.proofs.registers.are_below.Given as goal

abbrev pub invariant-loop-register : goal.invariant-loop-register
invariant-loop-register l = all_below l.registers l.named ≡ all_below l.registers (drop l.register-index l.named)
