use Rattle.std.proofs.Common.{◌≡◌, take}
use Rattle.dv_top.specs.Printed.{printed_lines}
use Rattle.dv_top.specs.Said.{fault_lines}
use Rattle.dv_top.proofs.printed.methods_of.Given as goal

abbrev pub invariant-loop-fault : goal.invariant-loop-fault
invariant-loop-fault l = printed_lines l.methods.items ≡ fault_lines l.image (take l.fault-index l.faults)
