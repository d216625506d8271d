-- What steps of threads and monitors are told by.
use Rattle.std.specs.Prelude.{Bool, true, false, Option, Some}
use Rattle.dv_defs.specs.declared.run.Native.{Native}
use Rattle.dv_defs.specs.declared.run.Native.TheVariants as native
use Rattle.dv_defs.specs.Families.{Family}

-- the natives of threads and monitors
abbrev pub is_of_threads : Native → Bool
is_of_threads native.Wait = true
is_of_threads native.Notify = true
is_of_threads native.NotifyAll = true
is_of_threads native.Start = true
is_of_threads native.Join = true
is_of_threads native.CurrentThread = true
is_of_threads n = false

abbrev pub is_enter_family : Option Family → Bool
is_enter_family (Some Family.MonitorEnter) = true
is_enter_family f = false

abbrev pub is_exit_family : Option Family → Bool
is_exit_family (Some Family.MonitorExit) = true
is_exit_family f = false
