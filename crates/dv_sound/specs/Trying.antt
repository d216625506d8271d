-- A turn that is tried.
use Rattle.std.specs.Prelude.{◌≡◌, ℕ}
use Rattle.dv_defs.specs.Pools.{Method}
use Rattle.dv_machine.specs.Replaying.{Stands, steps_of}
use Rattle.dv_machine.specs.State.{Machine}
use Rattle.dv_sound.specs.Runs.{IsAt, Run}

-- so many steps of a thread lead from this state to the one to which the log leads now
pub record IsLedBy (old new : Run) (main : Method) (m : Machine) (t n : ℕ) : Type 0 where
  pub after : Machine
  pub steps : (k : ℕ) → steps_of old.verified.image k t n m ≡ Stands after
  pub at : IsAt new main after
