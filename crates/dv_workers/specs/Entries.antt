-- The entries that workers log.
use Rattle.std.specs.Prelude.{◌≤◌, ◌<◌}
use Rattle.dv_defs.specs.declared.run.Entry.{Entry}

-- of one of the workers 0 to 7, and of 1 to 256 steps
pub record IsOfWorker (e : Entry) : Type 0 where
  pub worker : e.worker < 8
  pub some : 1 ≤ e.steps
  pub few : e.steps ≤ 256
