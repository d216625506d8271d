use Rattle.std.proofs.Common.{subst}
use Rattle.dv_defs.specs.Linked.{IsImage}
use Rattle.dv_rules.specs.Verified.{VerifiedValue}
use Rattle.dv_top.proofs.WorkingLemmas.{tail_is}
use Rattle.dv_top.proofs.ended.tail_follows.Goals as goal

pub returns : goal.returns
returns c main m at behind =
    let (T, good, stands) = c.vm.ensures.stands main m at in
    let linked : IsImage c.args.run.now.verified.image = subst (λ (v : VerifiedValue). IsImage v.image) c.verified.ensures c.is_linked.ensures in
    tail_is c.args.run.now T c.vm.result.now m behind c.final_lines_follow.ensures.law linked good c.vm.ensures.machine stands
