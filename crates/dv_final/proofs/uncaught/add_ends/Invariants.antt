use Rattle.std.proofs.Common.{◌≡◌, ◌++◌, drop}
use Rattle.dv_final.specs.Final.{uncaught_by_ends}
use Rattle.dv_final.proofs.uncaught.add_ends.Given as goal

-- the lines so far, and those of the threads that are left
abbrev pub invariant-loop-thread : goal.invariant-loop-thread
invariant-loop-thread l = l.fn.text.items ++ uncaught_by_ends l.image l.heap l.ends 0 ≡ l.text.items ++ uncaught_by_ends l.image l.heap (drop l.thread l.ends) l.thread
