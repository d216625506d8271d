use Rattle.dv_monitor.proofs.table.Monitors.exit.Goals as goal

pub returns-clause-owner : goal.returns-clause-owner
returns-clause-owner c = rw (← c.self.view_is) c.exit.ensures.owner
