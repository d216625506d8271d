-- The ways on from the instructions of a body.
use Rattle.std.specs.Prelude.{IfSome, List, None, Option, Some, [], filter, length, slice_index_or, true, ℕ, ◌<◌, ◌∷◌, ◌≡◌}
use Rattle.dv_defs.specs.Images.{Image}
use Rattle.dv_defs.specs.Op.{Code}
use Rattle.dv_defs.specs.Tiling.{begins_insn}
use Rattle.dv_typing.specs.Statics.{At, fetch}
use Rattle.dv_typing.specs.Flow.{targets}
use Rattle.law_gather.specs.Gathered.{covering_entry}
use Rattle.dv_plan.specs.declared.ways.Ways.{Ways}

-- control goes on from an operation at an address to the next instruction alone, which is this one
pub record IsNextAlone (code : Code) (at : ℕ) (x : At) (to : ℕ) : Type 0 where
  pub alone : targets x ≡ to ∷ []
  pub next : x.next ≡ to
  pub begins : begins_insn code.tiles to ≡ true
  pub rises : at < to

-- the ways on from an operation at an address
pub record IsWays (code : Code) (at : ℕ) (x : At) (w : Ways) : Type 0 where
  pub targets : w.targets ≡ filter (begins_insn code.tiles) (targets x)
  pub next : IfSome w.next (IsNextAlone code at x)
  pub covering : w.covering ≡ covering_entry code at x

-- there are the ways on from what is fetched at an address, and else none
pub record HasWays (image : Image) (code : Code) (at : ℕ) (o : Option Ways) : Type 0 where
  pub there : (x : At) → fetch image code.method.id at ≡ Some x → (w : Ways) × (o ≡ Some w) × IsWays code at x w
  pub only : (w : Ways) → o ≡ Some w → (x : At) × (fetch image code.method.id at ≡ Some x)

-- ... at each address below some
pub record AreWays (image : Image) (code : Code) (n : ℕ) (ways : List (Option Ways)) : Type 0 where
  pub count : length ways ≡ n
  pub each : (at : ℕ) → at < n → HasWays image code at (slice_index_or ways at None)
