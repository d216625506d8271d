-- Payloads, and the tiling of a body's units by instructions and payloads (AOSP, "Dalvik bytecode format").
use Rattle.std.specs.Prelude.{ℕ, zero, suc, ◌+◌, ◌-◌, ◌*◌, ◌/◌, ◌%◌, ◌^◌, Bool, true, false, ◌&&◌, ◌||◌, List, [], ◌∷◌, length, take, drop, map, ℤ, Option, Some, None, Result, Ok, Err, nat_eq, nat_lt, nat_le, is_some}
use Rattle.std.specs.List.{list_all}
use Rattle.dv_defs.specs.declared.code.Insn.{Insn}
use Rattle.dv_defs.specs.declared.code.Payload.{Payload}
use Rattle.dv_defs.specs.declared.code.Payload.TheVariants as payload
use Rattle.dv_defs.specs.Numbers.{signed_at}
use Rattle.dv_defs.specs.Decoding.{Sized, insn_here, is_zero}

-- so many numbers of 32 bits, each in two units, the low one first
abbrev pub doubles : ℕ → List ℕ → Option (List ℕ)
doubles zero us = Some []
doubles (suc n) (v ∷ w ∷ us) = elim (doubles n us) [ None ↦ None | Some xs ↦ Some ((v + w * 2 ^ 16) ∷ xs) ]
doubles (suc n) us = None

abbrev pub signed_all : List ℕ → List ℤ
signed_all xs = map (signed_at 32) xs

-- the low byte of a unit first
abbrev pub bytes_in : List ℕ → List ℕ
bytes_in [] = []
bytes_in (u ∷ us) = u % 256 ∷ u / 256 ∷ bytes_in us

-- a payload with the number of its units
pub record SizedPayload : Type 0 where
  pub payload : Payload
  pub size : ℕ

-- 0100, size, first key, targets
abbrev pub packed_with : ℕ → Option (List ℕ) → Option SizedPayload
packed_with n (Some (k ∷ ts)) = Some (record { payload = payload.Packed (signed_at 32 k) (signed_all ts); size = n * 2 + 4 })
packed_with n ks = None

-- 0200, size, keys, targets
abbrev pub sparse_with : ℕ → Option (List ℕ) → Option SizedPayload
sparse_with n None = None
sparse_with n (Some xs) = Some (record { payload = payload.Sparse (signed_all (take n xs)) (signed_all (drop n xs)); size = n * 4 + 2 })

abbrev pub is_width : ℕ → Bool
is_width w = nat_eq w 1 || nat_eq w 2 || nat_eq w 4 || nat_eq w 8

abbrev pub data_in : ℕ → ℕ → List ℕ → ℕ → Option SizedPayload
data_in width count bytes units =
    elim (list_all is_zero (drop count bytes)) [
      | true ↦ Some (record { payload = payload.Data width (take count bytes); size = units + 4 })
      | false ↦ None
    ]

-- so many bytes in so many units; a last byte that isn't used is 0
abbrev pub data_of : ℕ → ℕ → ℕ → List ℕ → Option SizedPayload
data_of width count units us =
    elim (is_width width && nat_le units (length us)) [
      | true ↦ data_in width count (bytes_in (take units us)) units
      | false ↦ None
    ]

-- 0300, width, number of elements, bytes
abbrev pub data_from : ℕ → List ℕ → Option SizedPayload
data_from width (lo ∷ hi ∷ us) = data_of width ((lo + hi * 2 ^ 16) * width) (((lo + hi * 2 ^ 16) * width + 1) / 2) us
data_from width us = None

-- the payload whose first unit was 0100, 0200 or 0300, by that unit's high byte
abbrev pub payload_of : ℕ → List ℕ → Option SizedPayload
payload_of kind (n ∷ us) =
    elim (nat_eq kind 1) [
      | true ↦ packed_with n (doubles (suc n) us)
      | false ↦ elim (nat_eq kind 2) [ true ↦ sparse_with n (doubles (n + n) us) | false ↦ data_from n us ]
    ]
payload_of kind us = None

pub data Item : Type 0 where
  IsInsn : (insn : Insn) → Item
  IsPayload : (payload : Payload) → Item

-- an item with the number of its units
pub record Piece : Type 0 where
  pub item : Item
  pub size : ℕ

abbrev pub insn_piece : Option Sized → Option Piece
insn_piece None = None
insn_piece (Some x) = Some (record { item = IsInsn x.insn; size = x.size })

abbrev pub payload_piece : Option SizedPayload → Option Piece
payload_piece None = None
payload_piece (Some x) = Some (record { item = IsPayload x.payload; size = x.size })

-- 0100, 0200 and 0300 begin a payload and no instruction
abbrev pub begins_payload : ℕ → Bool
begins_payload u = nat_eq (u % 256) 0 && nat_lt 0 (u / 256) && nat_lt (u / 256) 4

-- the item that is spelled from here on
abbrev pub piece_here : List ℕ → Option Piece
piece_here [] = None
piece_here (u ∷ us) = elim (begins_payload u) [ true ↦ payload_piece (payload_of (u / 256) us) | false ↦ insn_piece (insn_here (u ∷ us)) ]

-- an item at its address
pub record Tile : Type 0 where
  pub at : ℕ
  pub size : ℕ
  pub item : Item

abbrev pub with_tile : Tile → Result (List Tile) ℕ → Result (List Tile) ℕ
with_tile t (Ok ts) = Ok (t ∷ ts)
with_tile t (Err at) = Err at

-- from an address on, with so many units of the item before still to pass
abbrev pub tiled : ℕ → ℕ → List ℕ → Result (List Tile) ℕ
tiled at zero [] = Ok []
tiled at (suc k) [] = Err at
tiled at (suc k) (u ∷ us) = tiled (suc at) k us
tiled at zero (u ∷ us) =
    elim (piece_here (u ∷ us)) [
      | None ↦ Err at
      | Some p ↦ with_tile (record { at = at; size = p.size; item = p.item }) (tiled (suc at) (p.size - 1) us)
    ]

-- the items one after another from address 0 to the end of the units, else the first address at which none begins
abbrev pub tiling : List ℕ → Result (List Tile) ℕ
tiling us = tiled 0 0 us

abbrev pub tiles_in : Result (List Tile) ℕ → List Tile
tiles_in (Ok ts) = ts
tiles_in (Err at) = []

abbrev pub tile_at : List Tile → ℕ → Option Tile
tile_at [] at = None
tile_at (t ∷ ts) at = elim (nat_eq t.at at) [ true ↦ Some t | false ↦ tile_at ts at ]

abbrev pub insn_in : Item → Option Insn
insn_in (IsInsn i) = Some i
insn_in (IsPayload p) = None

abbrev pub payload_in : Item → Option Payload
payload_in (IsInsn i) = None
payload_in (IsPayload p) = Some p

abbrev pub insn_at : List Tile → ℕ → Option Insn
insn_at ts at = elim (tile_at ts at) [ None ↦ None | Some t ↦ insn_in t.item ]

abbrev pub payload_at : List Tile → ℕ → Option Payload
payload_at ts at = elim (tile_at ts at) [ None ↦ None | Some t ↦ payload_in t.item ]

-- whether an instruction begins at an address
abbrev pub begins_insn : List Tile → ℕ → Bool
begins_insn ts at = is_some (insn_at ts at)

-- whether an instruction or a payload does
abbrev pub begins_item : List Tile → ℕ → Bool
begins_item ts at = is_some (tile_at ts at)
