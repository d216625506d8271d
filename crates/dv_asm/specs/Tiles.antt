-- The instructions and payloads of a draft at their addresses, aligning nops included.
use Rattle.std.specs.Prelude.{ℕ, zero, suc, ◌≡◌, nat_lt, List, [], ◌∷◌, ◌++◌, length, Option, Some, None, Ok, if◌then◌else◌}
use Rattle.dv_defs.specs.declared.code.Payload.TheVariants as payload
use Rattle.dv_defs.specs.Spelling.{plain, few, AreUnits}
use Rattle.dv_defs.specs.Tiling as tiling
use Rattle.dv_defs.specs.Tiling.{IsInsn, IsPayload, Tile}
use Rattle.dv_defs.specs.Layout.{AreTiles}
use Rattle.dv_draft.specs.declared.draft.Item.{Item}
use Rattle.dv_draft.specs.declared.draft.What.{What}
use Rattle.dv_draft.specs.declared.draft.What.TheVariants as what
use Rattle.dv_draft.specs.declared.pools.Pools.{Pools}
use Rattle.dv_draft.specs.Draft.{DraftValue}
use Rattle.dv_asm.specs.Items.{item_at, size_of}
use Rattle.dv_asm.specs.Places.{end_of, address_of}
use Rattle.dv_draft.specs.Pools.{pools_of}
use Rattle.dv_asm.specs.Layout.{AreSpelled, insn_of, packed_of, sparse_of, units_of}

-- the instruction or payload of an item, with its offset and index or its targets; none of a label
abbrev pub content_of : List Item → Pools → ℕ → What → Option tiling.Item
content_of items pools k (what.Label name) = None
content_of items pools k (what.Op op) = Some (IsInsn (insn_of items pools k op))
content_of items pools k (what.Packed first names) = Some (IsPayload (packed_of items (address_of items k) first names))
content_of items pools k (what.Sparse keys names) = Some (IsPayload (sparse_of items (address_of items k) keys names))
content_of items pools k (what.Data width bytes) = Some (IsPayload (payload.Data width bytes))

abbrev pub tiles_for : ℕ → ℕ → Option tiling.Item → List Tile
tiles_for at size None = []
tiles_for at size (Some x) = record { at = at; size = size; item = x } ∷ []

-- the nop at an address before an item, where the item stands after it
abbrev pub nops_between : ℕ → ℕ → List Tile
nops_between end address = if nat_lt end address then record { at = end; size = 1; item = IsInsn (plain 0 (few [])) } ∷ [] else []

-- what the first k items are in the units: their instructions and payloads at their addresses, with the aligning nops
abbrev pub tiles_of : List Item → Pools → ℕ → List Tile
tiles_of items pools zero = []
tiles_of items pools (suc k) =
    (tiles_of items pools k ++ nops_between (end_of items k) (address_of items k)) ++
    tiles_for (address_of items k) (size_of (item_at items k).what) (content_of items pools k (item_at items k).what)

abbrev pub tiles : DraftValue → List Tile
tiles d = tiles_of d.items (pools_of d.items) (length d.items)

-- The units of items that have spellings are tiled by what the items are.
abbrev pub UnitsAreTiled : Type 0
UnitsAreTiled =
    (items : List Item) (pools : Pools) → AreSpelled items pools →
    AreTiles 0 (tiles_of items pools (length items)) (units_of items pools (length items))

-- The tiling of these units is what the items are.
abbrev pub TilingIsItems : Type 0
TilingIsItems =
    (items : List Item) (pools : Pools) → AreSpelled items pools → AreUnits (units_of items pools (length items)) →
    tiling.tiling (units_of items pools (length items)) ≡ Ok (tiles_of items pools (length items))
