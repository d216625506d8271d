use Rattle.std.proofs.Common.{None, sym, subst}
use Rattle.dv_draft.specs.declared.draft.PoolRef.TheVariants as pool
use Rattle.test_text.proofs.TestOps.{Forms, nop_forms}
use Rattle.test_text.proofs.asm.Making.nop.Goals as goal

pub op-requires : goal.op-requires
op-requires c = subst (Forms None pool.None) (sym c.insn.ensures) nop_forms
