use Rattle.std.proofs.Common.{◌-◌}
use Rattle.example_host.proofs.schedule.finish.Given as goal

abbrev pub decreases-loop-run : goal.decreases-loop-run
decreases-loop-run l = l.run.machine.limits.budget - l.run.machine.steps
