-- The places of a body's items by their addresses.
use Rattle.std.specs.Prelude.{◌≡◌, ℕ, suc, true, false, List, [], ◌∷◌, Option, Some, None, nat_eq, slice_index_or}
use Rattle.dv_static.specs.declared.tiles.Tile.{Tile}

-- the place of the first item that begins at an address, among items whose first has a place
abbrev pub place_from : ℕ → List Tile → ℕ → Option ℕ
place_from k [] at = None
place_from k (t ∷ ts) at = elim (nat_eq t.at at) [ true ↦ Some k | false ↦ place_from (suc k) ts at ]

-- for each address the place of the first item that begins there; for those past the end there is none
pub record AreStarts (tiles : List Tile) (places : List (Option ℕ)) : Type 0 where
  pub starts : (at : ℕ) → slice_index_or places at None ≡ place_from 0 tiles at
