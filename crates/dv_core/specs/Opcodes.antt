-- The opcodes that may hold up a thread (AOSP, "Dalvik bytecode format").
use Rattle.std.specs.Prelude.{Bool, true, false, Option, Some}
use Rattle.dv_defs.specs.Families.{Family}

-- a thread waits at these for a monitor, for the initialiser of a class, to be notified, or for another thread to end
abbrev pub may_hold_up : Option Family → Bool
may_hold_up (Some Family.MonitorEnter) = true
may_hold_up (Some Family.NewInstance) = true
may_hold_up (Some (Family.StaticGet s)) = true
may_hold_up (Some (Family.StaticPut s)) = true
may_hold_up (Some (Family.Invoke c)) = true
may_hold_up f = false
