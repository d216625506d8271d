use Rattle.std.proofs.Common.{List, ap, ◌∙◌}
use Rattle.std.specs.Option.{option_map}
use Rattle.dv_machine.specs.Monitors.{wait_in, wait_of}
use Rattle.dv_monitor.specs.declared.wait.Wait as kept
use Rattle.dv_monitor.specs.State.{MonitorState}
use Rattle.dv_monitor.specs.Waits.{wait_value, wait_values}
use Rattle.dv_monitor.proofs.WaitLaws.{wait_in-find}
use Rattle.dv_monitor.proofs.table.Monitors.wait_of.Goals as goal

pub returns : goal.returns
returns c =
    ap (λ o. option_map wait_value o) c.find.ensures
    ∙ wait_in-find c.args.thread c.deref.result.now
    ∙ ap (λ (ws : List kept.Wait). wait_in c.args.thread (wait_values ws)) c.deref.ensures.value
    ∙ ap (λ (s : MonitorState). wait_of s.monitors c.args.thread) c.self.view_is
