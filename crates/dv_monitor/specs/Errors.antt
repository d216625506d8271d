-- Why a wait is refused.
use Rattle.std.specs.Prelude.{◌≡◌, ◌≢◌, ℕ, Some, false}
use Rattle.dv_machine.specs.Monitors.{owner_of}
use Rattle.dv_monitor.specs.declared.errors.MonitorError.{MonitorError}
use Rattle.dv_monitor.specs.declared.errors.MonitorError.TheVariants.{NotOwner, Memory}
use Rattle.dv_monitor.specs.State.{MonitorState}

-- the thread isn't the owner, which the refusal names; or it is, and room was wanting
abbrev pub RefusesWait : MonitorState → ℕ → ℕ → MonitorError → Type 0
RefusesWait s object thread (NotOwner refused) = (owner_of s.monitors object ≢ Some thread) × (refused.owner ≡ owner_of s.monitors object)
RefusesWait s object thread (Memory e) = (owner_of s.monitors object ≡ Some thread) × (s.ready ≡ false)
