-- Where instructions begin.
use Rattle.std.specs.Prelude.{◌≡◌, ◌<◌, ◌+◌, ℕ, Bool, true, false, nat_eq, List, length, drop, Some, None, slice_index_or}
use Rattle.dv_defs.specs.Tiling.{Tile, begins_insn, piece_here}

-- the flags say of each address below some whether an instruction begins there
abbrev pub Begin : List Tile → List Bool → ℕ → Type 0
Begin tiles flags n = (at : ℕ) → at < n → slice_index_or flags at false ≡ begins_insn tiles at

-- behind the item that begins at an address, or behind all units
abbrev pub behind_item : List ℕ → ℕ → ℕ
behind_item units here = elim (piece_here (drop here units)) [ None ↦ length units | Some p ↦ here + p.size ]

-- where a walk that has come here is when an address is passed
abbrev pub passed_to : List ℕ → ℕ → ℕ → ℕ
passed_to units here at = elim (nat_eq at here) [ true ↦ behind_item units here | false ↦ here ]
