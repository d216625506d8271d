use Rattle.std.proofs.Common.{◌++◌, ap, ◌∙◌}
use Rattle.dv_top.specs.Working.{tail_of}
use Rattle.dv_top.proofs.EndedLemmas.{run_is, run_is_good}
use Rattle.dv_top.proofs.ended.tail_of_ended.Goals as goal

pub returns-clause-ran : goal.returns-clause-ran
returns-clause-ran c main m at =
    let tail = c.of.ensures ∙ (c.in_ok-add_tail.ensures ∙ ap (λ t. t ++ tail_of c.args.run.now c.args.behind) c.new-text.ensures.items) in
    let text = ap (λ t. c.args.run.now.machine.shared.output ++ t) tail ∙ c.tail_follows.ensures main m at c.args.behind in
    run_is c.args.run.now main m _ c.args.behind _ at (c.requires main m at) (c.status_of_ended.ensures.told main m at) text

pub returns-clause-good : goal.returns-clause-good
returns-clause-good c =
    let some = c.status_of_ended.ensures.leads in
    run_is_good c.args.run.now some.main some.machine _ some.at (c.requires some.main some.machine some.at) (c.status_of_ended.ensures.told some.main some.machine some.at)
