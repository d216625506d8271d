use Rattle.std.proofs.Common.{sym, ◌∙◌}
use Rattle.dv_workers.proofs.Runs.{Tells, tried_logs, tried_prints}
use Rattle.dv_workers.proofs.turning.try_turn.Goals as goal

pub returns-clause-logs : goal.returns-clause-logs
returns-clause-logs c =
    tried_logs c.args.vm.now.log c.try_turn-tried.new.self.log c.args.worker c.args.thread c.try_turn-tried.result.steps c.requires.worker c.try_turn-tried.ensures.few c.try_turn-tried.ensures.logs

pub returns-clause-prints : goal.returns-clause-prints
returns-clause-prints c =
    let before : Tells c.args.vm.now = λ main m at. sym c.printed-before.ensures.output ∙ c.printed-before.ensures.tagged main m at in
    let after : Tells c.try_turn-tried.new.self = λ main m at. sym c.printed-after.ensures.output ∙ c.printed-after.ensures.tagged main m at in
    tried_prints c.args.vm.now c.try_turn-tried.new.self c.args.thread c.try_turn-tried.result.steps c.log-log.ensures.leads before after c.try_turn-tried.ensures.led

pub returns-clause-some : goal.returns-clause-some
returns-clause-some c may none =
    let s = c.log-log.ensures.leads in
    c.try_turn-tried.ensures.some s.main s.machine s.at (may s.main s.machine s.at) none
