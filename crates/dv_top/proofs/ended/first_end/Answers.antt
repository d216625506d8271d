use Rattle.std.proofs.Common.{ap, ◌∙◌}
use Rattle.std.specs.Prelude.{slice_get}
use Rattle.dv_threads.specs.declared.threads.Threads.{Threads}
use Rattle.dv_top.proofs.EndedLemmas.{first_end}
use Rattle.dv_top.proofs.ended.first_end.Goals as goal

pub returns : goal.returns
returns c main m at =
    let (T, good, stands) = c.vm.ensures.stands main m at in
    let ends = c.deref.ensures.value ∙ ap (λ (ts : Threads). ts.ends.items) c.threads.ensures in
    c.first_of.ensures ∙ (ap (λ es. slice_get es 0) ends ∙ first_end c.args.run.now.verified.image T c.vm.result.now m stands)
