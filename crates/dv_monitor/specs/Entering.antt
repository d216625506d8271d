-- How an entering goes that is tried.
use Rattle.std.specs.Prelude.{ℕ, ◌-◌, ◌^◌, None, Some, nat_eq, nat_lt, if◌then◌else◌}
use Rattle.dv_machine.specs.Monitors.{Held, Monitors, held_of}
use Rattle.dv_monitor.specs.declared.entry.Entry.{Entry}
use Rattle.dv_monitor.specs.declared.entry.Entry.TheVariants.{Entered, Full, Taken}

-- another's monitor is taken; the thread's own is entered once more, but for one that is counted as far as it goes
abbrev pub entry_again : ℕ → Held → Entry
entry_again thread held = if nat_eq held.thread thread then (if nat_lt held.count (2 ^ 64 - 1) then Entered else Full) else Taken

-- a free one is entered
abbrev pub entry_for : Monitors → ℕ → ℕ → Entry
entry_for m object thread = elim (held_of m object) [ None ↦ Entered | Some held ↦ entry_again thread held ]
