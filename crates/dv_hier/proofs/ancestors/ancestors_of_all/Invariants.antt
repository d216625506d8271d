use Rattle.std.proofs.Common.{◌≡◌, ◌<◌, ℕ, [], length}
use Rattle.std.specs.Prelude.{slice_index_or}
use Rattle.dv_defs.specs.Order.{implements}
use Rattle.dv_hier.specs.Upwards.{bare, is_marked}
use Rattle.dv_hier.proofs.ancestors.ancestors_of_all.Given as goal

abbrev pub invariant-loop-class : goal.invariant-loop-class
invariant-loop-class l =
    (length l.rows.items ≡ l.class) × ((c d : ℕ) → c < l.class → is_marked (slice_index_or l.rows.items c []) d ≡ implements (bare l.infos) c d)
