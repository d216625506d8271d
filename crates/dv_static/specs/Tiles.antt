-- The items of a body as the code has them.
use Rattle.std.specs.Prelude.{ℕ, List, map, Result, Ok, Err}
use Rattle.dv_defs.specs.Decoding.{Sized}
use Rattle.dv_defs.specs.Tiling as tiling
use Rattle.dv_defs.specs.Tiling.{SizedPayload}
use Rattle.dv_static.specs.declared.tiles.Item.{Item}
use Rattle.dv_static.specs.declared.tiles.Item.TheVariants as item
use Rattle.dv_static.specs.declared.tiles.Tile.{Tile}
use Rattle.dv_static.specs.declared.tiles.Tiled.{Tiled}
use Rattle.dv_static.specs.declared.tiles.Tiled.TheVariants as tiled

abbrev pub item_of : Item → tiling.Item
item_of (item.Insn i) = tiling.IsInsn i
item_of (item.Payload p) = tiling.IsPayload p

abbrev pub tile_of : Tile → tiling.Tile
tile_of t = record { at = t.at; size = t.size; item = item_of t.item }

-- the tiles, or the first address at which no item begins
abbrev pub tiled_of : Tiled → Result (List tiling.Tile) ℕ
tiled_of (tiled.Whole ts) = Ok (map tile_of ts)
tiled_of (tiled.Broken at) = Err at

-- an item as the code has it, with the number of its units
abbrev pub code_item : tiling.Item → Item
code_item (tiling.IsInsn i) = item.Insn i
code_item (tiling.IsPayload p) = item.Payload p

abbrev pub item_sized : tiling.Piece → Item × ℕ
item_sized p = (code_item p.item, p.size)

abbrev pub insn_sized : Sized → Item × ℕ
insn_sized x = (item.Insn x.insn, x.size)

abbrev pub payload_sized : SizedPayload → Item × ℕ
payload_sized x = (item.Payload x.payload, x.size)
