use Rattle.std.proofs.Common.{Some, sym, ◌∙◌}
use Rattle.std.proofs.lemmas.Result.{IfOk-weaker}
use Rattle.dv_defs.specs.declared.run.Limits.{Limits}
use Rattle.dv_defs.specs.Images.{Image}
use Rattle.dv_machine.specs.Replaying.{IsLegal}
use Rattle.dv_top.specs.Runs.{AreFirstTurns, AreTurns, IsRun}
use Rattle.dv_top.specs.Status.{code_of}
use Rattle.dv_top.proofs.RunningLemmas.{image_of, main_of, moved, state_of}
use Rattle.dv_top.proofs.running.reply_of_run.Goals as goal

pub returns-clause-ran : goal.returns-clause-ran
returns-clause-ran c m is =
    let v = c.args.verified.now in
    let run = c.in_ok-run.run' in
    let (program, main, limits) = c.in_ok-run.ensures.program in
    let images = image_of run.verified v program in
    let log = sym c.into_log.ensures in
    IfOk-weaker c.reply_of_turns-reply.result _ _ (λ reply h. (
      moved (λ (i : Image) (l : Limits) es. AreTurns (Some c.args.how.now.seed) i m l es) run.verified.image v.image run.machine.limits c.args.how.now.limits _ _ images limits log h.0,
      moved (λ (i : Image) (l : Limits) es. IsRun i m l es c.args.how.now.behind (code_of reply.status) reply.text.items) run.verified.image v.image run.machine.limits c.args.how.now.limits _ _ images limits log h.1,
    )) (c.reply_of_turns-reply.ensures.ran m (main_of run.verified v run.main c.args.main m program main is))

pub returns-clause-legal : goal.returns-clause-legal
returns-clause-legal c m is some =
    let v = c.args.verified.now in
    let run = c.in_ok-run.run' in
    let new = c.reply_of_turns-reply.new.run in
    let same = c.reply_of_turns-reply.ensures.same in
    let (program, main, limits) = c.in_ok-run.ensures.program in
    let images = image_of run.verified v program in
    let log = sym c.into_log.ensures in
    let main-is = main_of run.verified v run.main c.args.main m program main is in
    let (k, at) = state_of new m c.has_state.ensures (main_of new.verified run.verified new.main run.main m same.verified same.main main-is) in (
      moved (λ (i : Image) (l : Limits) es. IsLegal i m l es) new.verified.image v.image new.machine.limits c.args.how.now.limits _ _ (image_of new.verified run.verified same.verified ∙ images) (same.limits ∙ limits) log (k, at.replayed),
      moved (λ (i : Image) (l : Limits) es. AreFirstTurns (Some c.args.how.now.seed) i m l es) run.verified.image v.image run.machine.limits c.args.how.now.limits _ _ images limits log (c.reply_of_turns-reply.ensures.first m main-is),
    )
