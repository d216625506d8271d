use Rattle.std.proofs.Common.{ap, sym, ◌∙◌}
use Rattle.dv_machine.specs.Monitors.{entered_in, wait_in, without}
use Rattle.dv_monitor.specs.State.{MonitorState}
use Rattle.dv_monitor.specs.Waits.{wait_value, wait_values}
use Rattle.dv_monitor.proofs.WaitLaws.{taken-back}
use Rattle.dv_monitor.proofs.table.Monitors.resume.Goals as goal

pub returns-clause-resumed : goal.returns-clause-resumed
returns-clause-resumed c =
    taken-back c.args.self.now.monitors c.args.object c.args.thread (wait_value c.take-wait.result) c.add.new.self.held (wait_values c.take-wait.new.waits.items)
    (ap (λ (s : MonitorState). wait_in c.args.thread s.monitors.waits) (sym c.self.view_is) ∙ c.take-wait.ensures.value)
    c.requires.notified
    (c.add.ensures.added ∙ ap (λ (s : MonitorState). entered_in s.monitors.held c.args.object c.args.thread c.take-wait.result.kept) c.self.view_is)
    (c.take-wait.ensures.waits ∙ ap (λ (s : MonitorState). without c.args.thread s.monitors.waits) c.self.view_is)
