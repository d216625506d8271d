use Rattle.std.proofs.Common.{◌≡◌, ◌++◌, ◌∙◌, OnOk, ap, subst}
use Rattle.dv_final.specs.Final.{uncaught_by_ends}
use Rattle.dv_final.proofs.Ended.{ends_tell}
use Rattle.dv_final.proofs.uncaught.add_uncaught.Goals as goal

pub returns : goal.returns
returns c are =
    let ts = c.args.threads.now in
    let told =
    ap (λ es. uncaught_by_ends c.args.image.now c.args.heap.now es 0) c.deref.ensures.value ∙
    ends_tell c.args.image.now c.args.heap.now ts.stacks.items ts.ends.items ts.objects.items 0 are.ends are.objects in
    subst (λ bs. OnOk c.add_ends.result (c.add_ends.new.text.items ≡ c.args.text.now.items ++ bs)) told c.add_ends.ensures
