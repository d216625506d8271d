use Rattle.std.proofs.Common.{Option, Some, ap, refl, subst, sym}
use Rattle.dv_console.specs.declared.command.Cmd.{Cmd}
use Rattle.dv_console.specs.declared.command.Cmd.TheVariants as cmd
use Rattle.dv_top.specs.Answering.{IsAnswer}
use Rattle.dv_top.specs.Words.{ReadsSource}
use Rattle.dv_top.proofs.AnswerLemmas.{asks_demo, asks_run}
use Rattle.dv_top.proofs.WorkingLemmas.{demo_answered}
use Rattle.dv_top.proofs.calls.do_command.Goals as goal

pub returns-in-None : goal.returns-in-None
returns-in-None g c =
    let run = c.in-Run in
    let is = rw c.in-None.is at run.is in
    c.run_by_workers.ensures (Some c.args.command.now) (asks_run _ _ _ _ _ _ _ (ap Some is) c.of.ensures)
    (subst (λ (command : Cmd). ReadsSource (Some command)) (sym is) tt)

pub returns-in-Demo : goal.returns-in-Demo
returns-in-Demo g c =
    let demo = c.in-Demo in
    let asked : Option Cmd = Some (cmd.Demo demo.number demo.classes demo.threads demo.workers) in
    subst
    (λ (o : Option Cmd). IsAnswer g.S.Source.left g.S.Source.faults g.K.Sink.taken g.K.Sink.faults o c.args.source.now c.args.source.now c.args.sink c.run_demo.result.sink c.run_demo.result.log.items c.run_demo.result.status)
    (sym (ap Some demo.is))
    (demo_answered g.S.Source.left g.S.Source.faults g.K.Sink.taken g.K.Sink.faults demo.number demo.classes demo.threads demo.workers _ _ _ _ _ _
    (asks_demo asked demo.number demo.classes demo.threads demo.workers _ refl c.default_limits.ensures) c.run_demo.ensures)
