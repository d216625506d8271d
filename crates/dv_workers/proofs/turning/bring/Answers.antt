use Rattle.std.proofs.Common.{inl, inr, sym, arith, [], ap, ◌∙◌}
use Rattle.std.proofs.lemmas.List.{append-nil}
use Rattle.dv_workers.specs.Desks.{printed}
use Rattle.dv_workers.proofs.Runs.{Tells, slice_home, slice_logs, slice_prints}
use Rattle.dv_workers.proofs.turning.bring.Goals.{then-steps-eq0, else-steps-eq0}
use Rattle.dv_workers.proofs.turning.bring.Goals as goal

pub returns-clause-logs : goal.returns-clause-logs
returns-clause-logs c =
    let logs = slice_logs c.args.vm.now c.commit.new.self c.args.worker c.in_ok-steps.steps c.args.slice c.requires.worker (omega (arith, c.in_ok-steps.ensures.few, c.requires.made.few)) c.log-log.ensures.leads c.requires.fits c.in_ok-steps.ensures.committed in
    elim c.if-steps-eq0.branch [
      | then-steps-eq0 w ↦ inr (w.result-is, logs.1 w.if-steps-eq0.true)
      | else-steps-eq0 w ↦ inl (w.result-is, logs.0 w.if-steps-eq0.false)
    ]

pub returns-clause-prints : goal.returns-clause-prints
returns-clause-prints c =
    let before : Tells c.args.vm.now = λ main m at. sym c.printed-before.ensures.output ∙ c.printed-before.ensures.tagged main m at in
    let after : Tells c.commit.new.self = λ main m at. sym c.printed-after.ensures.output ∙ c.printed-after.ensures.tagged main m at in
    slice_prints c.args.vm.now c.commit.new.self c.args.worker c.in_ok-steps.steps c.args.slice c.log-log.ensures.leads before after c.requires.fits c.in_ok-steps.ensures.committed

pub returns-clause-home : goal.returns-clause-home
returns-clause-home c = slice_home c.args.vm.now c.commit.new.self c.args.worker c.in_ok-steps.steps c.args.slice c.log-log.ensures.leads c.requires.fits c.in_ok-steps.ensures.committed

pub returns-in_err-steps-clause-prints : goal.returns-in_err-steps-clause-prints
returns-in_err-steps-clause-prints c = ([], ap printed c.in_err-steps.ensures.refused.1 ∙ sym (append-nil (printed c.args.vm.now)))
