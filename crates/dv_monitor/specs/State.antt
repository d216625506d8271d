-- Monitors as a caller sees them.
use Rattle.std.specs.Prelude.{ℕ, Bool, [], None, Some}
use Rattle.dv_machine.specs.Monitors.{Monitors, held_of}

-- the monitors, and whether one more monitor can be entered, or one thread more can wait, without memory
pub record MonitorState : Type 0 where
  pub monitors : Monitors
  pub ready : Bool

-- no monitor is owned and no thread waits
abbrev pub no_monitors : Monitors
no_monitors = record { held = []; waits = [] }

-- how often its owner has entered it
abbrev pub count_of : Monitors → ℕ → ℕ
count_of m object = elim (held_of m object) [ None ↦ 0 | Some h ↦ h.count ]
