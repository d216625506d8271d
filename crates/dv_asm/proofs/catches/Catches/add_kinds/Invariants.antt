use Rattle.std.proofs.Common.{◌≡◌, drop}
use Rattle.dv_defs.specs.Types.{ty_eq}
use Rattle.dv_draft.specs.Pools.{with_entries}
use Rattle.dv_asm.proofs.GroupLemmas.{kind_of}
use Rattle.dv_asm.proofs.catches.Catches.add_kinds.Given as goal

abbrev pub invariant-loop-catch : goal.invariant-loop-catch
invariant-loop-catch l = with_entries ty_eq kind_of l.types (drop l.catch-index l.catch-items) ≡ with_entries ty_eq kind_of l.fn.types l.catch-items
