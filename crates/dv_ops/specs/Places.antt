-- Addresses of a body.
use Rattle.std.specs.Prelude.{◌≡◌, ◌⊎◌, ℕ, Bool, true, false, not, List, [], ◌∷◌, length}
use Rattle.dv_defs.specs.Op.{Code}
use Rattle.dv_defs.specs.Tiling.{begins_item, begins_payload, tiling, tiles_in}

-- an item begins at the address, or the body ends there
abbrev pub IsBoundary : Code → ℕ → Type 0
IsBoundary code at = (begins_item code.tiles at ≡ true) ⊎ (at ≡ length code.body.units)

-- the same of units
abbrev pub IsEdge : List ℕ → ℕ → Type 0
IsEdge units at = (begins_item (tiles_in (tiling units)) at ≡ true) ⊎ (at ≡ length units)

-- there are units, and the first begins no payload
abbrev pub begins_as_insn : List ℕ → Bool
begins_as_insn [] = false
begins_as_insn (u ∷ us) = not (begins_payload u)
