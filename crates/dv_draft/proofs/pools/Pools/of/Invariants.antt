use Rattle.std.proofs.Common.{◌≡◌, drop}
use Rattle.dv_draft.specs.Pools.{no_pools}
use Rattle.dv_draft.proofs.KeyLemmas.{with_items}
use Rattle.dv_draft.proofs.pools.Pools.of.Given as goal

abbrev pub invariant-loop-item : goal.invariant-loop-item
invariant-loop-item l = with_items l.pools (drop l.item-index l.items) ≡ with_items no_pools l.items
