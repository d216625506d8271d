use Rattle.std.proofs.Common.{◌≢◌, ℕ, ◌<◌, [], slice_index_or}
use Rattle.dv_defs.specs.declared.class.ClassDef.{ClassDef}
use Rattle.dv_hier.proofs.hierarchy.are_named.Given as goal

abbrev pub invariant-loop-class : goal.invariant-loop-class
invariant-loop-class l = (k : ℕ) (d : ClassDef) → k < l.class-index → (slice_index_or l.list k d).name ≢ []
