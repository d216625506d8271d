-- Waiting threads as they are kept.
use Rattle.std.specs.Prelude.{List, map}
use Rattle.dv_machine.specs.Monitors.{Wait}
use Rattle.dv_monitor.specs.declared.wait.Wait as kept

abbrev pub wait_value : kept.Wait → Wait
wait_value w = record { thread = w.thread; object = w.object; kept = w.kept; notified = w.notified }

abbrev pub wait_values : List kept.Wait → List Wait
wait_values ws = map wait_value ws
