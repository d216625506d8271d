use Rattle.std.proofs.Common.{◌++◌, ap, ◌∙◌}
use Rattle.dv_words.specs.State.{WordMachine}
use Rattle.dv_top.specs.Working.{tail_of}
use Rattle.dv_top.proofs.EndedLemmas.{run_is}
use Rattle.dv_top.proofs.RunningLemmas.{state_of}
use Rattle.dv_top.proofs.ended.reply_of_ended.Goals as goal

pub returns : goal.returns
returns c main is =
    let (m, at) = state_of c.args.run.now main c.status_of_ended.ensures.leads is in
    let output = c.in_ok-text.ensures.items ∙ (c.output.ensures ∙ ap (λ (w : WordMachine). w.shared.output) c.vm-vm.ensures.machine) in
    let text = c.in_ok-add_tail.ensures ∙ (ap (λ o. o ++ tail_of c.args.run.now c.args.behind) output ∙ c.tail_follows.ensures main m at c.args.behind) in
    run_is c.args.run.now main m _ c.args.behind _ at (c.requires main m at) (c.status_of_ended.ensures.told main m at) (c.of.ensures ∙ text)
