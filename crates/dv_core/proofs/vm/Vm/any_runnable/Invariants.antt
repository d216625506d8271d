use Rattle.std.proofs.Common.{◌≡◌, ◌<◌, ℕ, false}
use Rattle.dv_words.specs.Running.{runnable}
use Rattle.dv_core.specs.Machines.{machine_of}
use Rattle.dv_core.specs.Watching.{AreWatchable}
use Rattle.dv_core.proofs.vm.Vm.any_runnable.Given as goal

abbrev pub invariant-loop-thread : goal.invariant-loop-thread
invariant-loop-thread l = AreWatchable l.image l.self → (j : ℕ) → j < l.thread → runnable l.image (machine_of l.self) j ≡ false
