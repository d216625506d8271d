use Rattle.std.proofs.Common.{All, List, sym, subst}
use Rattle.std.proofs.lemmas.Result.{IfOk-weaker}
use Rattle.dv_defs.specs.declared.run.Entry.{Entry}
use Rattle.dv_workers.specs.Entries.{IsOfWorker}
use Rattle.dv_top.proofs.Schedules.{schedule_of_text}
use Rattle.dv_top.proofs.program.program_to_replay.Goals as goal

pub returns-clause-schedule : goal.returns-clause-schedule
returns-clause-schedule c =
    let each = schedule_of_text c.args.text.now c.in_ok-scheduled.scheduled c.in_ok-scheduled.ensures in
    IfOk-weaker c.with_main.result _ _ (λ p same. subst (λ (es : List Entry). All IsOfWorker es) (sym same) each) c.with_main.ensures.schedule
