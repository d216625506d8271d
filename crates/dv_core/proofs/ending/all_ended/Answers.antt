use Rattle.std.proofs.Common.{◌∙◌, ap}
use Rattle.std.specs.List.{list_all}
use Rattle.std.specs.Prelude.{not}
use Rattle.dv_words.specs.Threads.{is_alive}
use Rattle.dv_core.proofs.Waits.{all_ends}
use Rattle.dv_core.proofs.ending.all_ended.Goals as goal

pub returns : goal.returns
returns c are =
    let ts = c.args.threads.now in
    c.have_ended.ensures ∙ (ap (list_all (λ e. not (is_alive e))) c.deref.ensures.value ∙ all_ends ts.stacks.items ts.ends.items ts.objects.items are.ends are.objects)
