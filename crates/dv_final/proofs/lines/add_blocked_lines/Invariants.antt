use Rattle.std.proofs.Common.{◌≡◌, ◌++◌, drop}
use Rattle.dv_core.specs.Machines.{machine_of}
use Rattle.dv_core.specs.Watching.{AreWatchable}
use Rattle.dv_final.specs.Final.{blocked_lines}
use Rattle.dv_final.proofs.lines.add_blocked_lines.Given as goal

-- the lines so far, and those of the threads that are left
abbrev pub invariant-loop-thread : goal.invariant-loop-thread
invariant-loop-thread l =
    AreWatchable l.image l.vm →
    l.fn.text.items ++ blocked_lines l.image (machine_of l.vm) (machine_of l.vm).threads 0 ≡
    l.text.items ++ blocked_lines l.image (machine_of l.vm) (drop l.thread (machine_of l.vm).threads) l.thread
