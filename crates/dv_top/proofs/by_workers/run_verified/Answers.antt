use Rattle.std.proofs.Common.{refl}
use Rattle.dv_defs.specs.declared.run.Limits.{Limits}
use Rattle.dv_defs.specs.Images.{Image}
use Rattle.dv_top.specs.Working.{IsWorked}
use Rattle.dv_top.proofs.RunningLemmas.{image_of, main_of, moved}
use Rattle.dv_top.proofs.WorkingLemmas.{not_opened}
use Rattle.dv_top.proofs.by_workers.run_verified.Goals as goal

pub returns-in-Ok-clause-worked : goal.returns-in-Ok-clause-worked
returns-in-Ok-clause-worked g c m is =
    let v = c.args.verified.now in
    let run = c.in-Ok.run' in
    let report = c.run_opened.result in
    let (program, main, limits) = c.in-Ok.ensures.program in
    moved (λ (i : Image) (l : Limits) es. IsWorked i m l es c.args.how.now.behind (g.K.Sink.taken c.args.sink) (g.K.Sink.taken report.sink) report.status) run.verified.image v.image run.machine.limits c.args.how.now.limits report.log.items report.log.items (image_of run.verified v program) limits refl (c.run_opened.ensures.worked m (main_of run.verified v run.main c.args.main m program main is))

pub returns-in-Err-clause-worked : goal.returns-in-Err-clause-worked
returns-in-Err-clause-worked g c m is =
    not_opened c.args.verified.now.image m c.args.how.now.limits _ c.args.how.now.behind _ _ _ c.report_of_status.ensures.log (rw c.report_of_status.ensures.sink) c.report_of_status.ensures.status
