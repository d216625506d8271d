-- Items whose spellings stand one after another in units.
use Rattle.std.specs.Prelude.{ℕ, ◌≡◌, ◌+◌, ◌≤◌, List, [], ◌∷◌, length, take, drop, Option, Some}
use Rattle.dv_defs.specs.Spelling.{spelling}
use Rattle.dv_defs.specs.Tiling.{Item, IsInsn, IsPayload, Tile}
use Rattle.dv_defs.specs.Payloads.{payload_spelling}

abbrev pub item_spelling : Item → Option (List ℕ)
item_spelling (IsInsn i) = spelling i
item_spelling (IsPayload p) = payload_spelling p

-- the spellings of the items, one after another from an address on, are these units
abbrev pub AreTiles : ℕ → List Tile → List ℕ → Type 0
AreTiles at [] us = us ≡ []
AreTiles at (t ∷ ts) us =
    (t.at ≡ at) × (t.size ≤ length us) × (item_spelling t.item ≡ Some (take t.size us)) × AreTiles (at + t.size) ts (drop t.size us)
