use Rattle.dv_sound.proofs.Keeping.{kept_first}
use Rattle.dv_sound.proofs.safe.SafeVm.open.Goals as goal

pub invariant_of-result : goal.invariant_of-result
invariant_of-result c =
    rw (c.new.ensures.items, c.new-2.ensures.items)
    (kept_first c.args.verified.now.image c.args.main c.args.limits c.in_ok-opened.field-0 (c.in_ok-opened.ensures c.requires.main c.requires.limits))
