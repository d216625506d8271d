-- The instructions and payloads of a body, each at its address.
use Rattle.std.specs.Prelude.{ℕ, List, map}
use Rattle.dv_defs.specs.Decoding.{Sized}
use Rattle.dv_defs.specs.Tiling as tiling
use Rattle.dv_defs.specs.Tiling.{SizedPayload, Item, IsInsn, IsPayload, Tile, tiling, tiles_in}
use Rattle.dv_print.specs.declared.pieces.Part.{Part}
use Rattle.dv_print.specs.declared.pieces.Part.TheVariants as part
use Rattle.dv_print.specs.declared.pieces.Piece.{Piece}

abbrev pub part_of : Item → Part
part_of (IsInsn i) = part.Insn i
part_of (IsPayload p) = part.Payload p

-- a part with the number of its units
abbrev pub part_sized : tiling.Piece → Part × ℕ
part_sized p = (part_of p.item, p.size)

abbrev pub insn_sized : Sized → Part × ℕ
insn_sized x = (part.Insn x.insn, x.size)

abbrev pub payload_sized : SizedPayload → Part × ℕ
payload_sized x = (part.Payload x.payload, x.size)

abbrev pub piece_of : Tile → Piece
piece_of t = record { at = t.at; part = part_of t.item }

-- the pieces of units, none where the units aren't instructions and payloads one after another
abbrev pub pieces_of : List ℕ → List Piece
pieces_of units = map piece_of (tiles_in (tiling units))
