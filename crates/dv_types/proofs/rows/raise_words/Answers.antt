use Rattle.std.proofs.Common.{not, ◌∙◌}
use Rattle.dv_bases.specs.States.{state_of}
use Rattle.dv_types.specs.Rows.{types_of}
use Rattle.dv_types.specs.Under.{regs_under}
use Rattle.dv_types.proofs.Raising.{parts_risen}
use Rattle.dv_types.proofs.rows.raise_words.Goals as goal

pub returns-clause-risen : goal.returns-clause-risen
returns-clause-risen c =
    let names = c.args.bases.now in
    parts_risen names.image (state_of names c.args.own.now) (state_of names c.args.by.now)
    c.raise_registers-regs.result c.raise_result-result.result c.raise_caught-caught.result c.raise_pending-pending.result c.is_any.result c.is_any.ensures
    (c.raise_registers-regs.ensures.risen ∙ (λ i. not (regs_under names.image (types_of names (c.deref.ensures.value i)) (types_of names (c.deref_mut.ensures.value i)))))
    c.raise_result-result.ensures.risen c.raise_caught-caught.ensures.risen c.raise_pending-pending.ensures.risen
