use Rattle.std.proofs.Common.{None, sym, subst}
use Rattle.dv_draft.specs.declared.draft.PoolRef.TheVariants as pool
use Rattle.test_text.proofs.TestOps.{Forms, string_forms}
use Rattle.test_text.proofs.asm.Making.const_string.Goals as goal

pub op-requires : goal.op-requires
op-requires c = subst (Forms None (pool.Str _)) (sym c.insn.ensures) (string_forms _)
