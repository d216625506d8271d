use Rattle.std.proofs.Common.{ap}
use Rattle.std.proofs.lemmas.Result.{IfOk-weaker}
use Rattle.dv_top.specs.Scheduling.{Refuses}
use Rattle.dv_top.specs.Status.{code_of}
use Rattle.dv_top.proofs.Replayed.{finished_ends}
use Rattle.dv_top.proofs.RunLemmas.{main_of_run, refused_by, runs_by}
use Rattle.dv_top.proofs.replaying.reply_of_replay.Goals as goal

pub returns-in-Ok-clause-replayed : goal.returns-in-Ok-clause-replayed
returns-in-Ok-clause-replayed c m is =
    let run = c.in-Ok.run' in
    let same = c.in-Ok.ensures.program in
    IfOk-weaker c.reply_of_replayed.result _ _ (λ reply ran. runs_by c.args.verified.now run.verified m c.args.limits.now run.machine.limits c.args.schedule.now run.log c.reply_of_replayed.new.log.items (code_of reply.status) reply.text.items same.0 same.2 c.in-Ok.ensures.log.0 ran.0 ran.1) (c.reply_of_replayed.ensures.ran m (main_of_run c.args.verified.now run.verified c.args.main run.main m same.0 same.1 is))

pub returns-in-Err-clause-replayed : goal.returns-in-Err-clause-replayed
returns-in-Err-clause-replayed c m is =
    IfOk-weaker c.refused_schedule.result _ _ (λ reply told. Refuses (refused_by c.in-Err.error c.args.verified.now.image m c.args.limits.now c.args.schedule.now reply.text.items (c.in-Err.ensures.refused m is) told.1) (ap code_of told.0) c.requires.empty) c.refused_schedule.ensures

-- a schedule that is replayed leads to an ending
pub reply_of_replayed-requires : goal.reply_of_replayed-requires
reply_of_replayed-requires c =
    let same = c.in-Ok.ensures.program in
    finished_ends c.in-Ok.run' c.args.verified.now c.args.main c.args.limits.now c.args.schedule.now same.0 same.1 same.2 c.in-Ok.ensures.log.0 c.in-Ok.ensures.finished
