use Rattle.std.proofs.Common.{◌≡◌, ◌<◌, ℕ, IsSome}
use Rattle.dv_asm.specs.Items.{item_at}
use Rattle.dv_asm.specs.Layout.{units_of, spelling_of}
use Rattle.dv_asm.proofs.short.Short.units.Given as goal

abbrev pub invariant-loop-k : goal.invariant-loop-k
invariant-loop-k l =
    (l.units.items ≡ units_of l.self l.pools l.k) × ((j : ℕ) → j < l.k → IsSome (spelling_of l.self l.pools j (item_at l.self j).what))
