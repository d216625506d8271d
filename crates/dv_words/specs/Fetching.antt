-- What is fetched at an address is what the units spell there.
use Rattle.std.specs.Prelude.{◌≡◌, ℕ, ◌+◌, [], List, drop, Some, Ok}
use Rattle.dv_defs.specs.declared.code.Insn.{Insn}
use Rattle.dv_defs.specs.declared.code.Payload.{Payload}
use Rattle.dv_defs.specs.Decoding.{insn_here}
use Rattle.dv_defs.specs.Images.{Image}
use Rattle.dv_defs.specs.Op.{Code, code_at, op_of}
use Rattle.dv_typing.specs.Statics.{At, fetch, insn_rules}
use Rattle.dv_defs.specs.Tiling.{IsPayload, payload_at, piece_here, tiles_in, tiling}

-- an operation stands at an address of a method with these units
pub record StandsAt (image : Image) (n : ℕ) (units : List ℕ) (at : ℕ) (x : At) : Type 0 where
  pub code : Code
  pub has_code : code_at image n ≡ Some code
  pub same_units : code.body.units ≡ units
  pub has_at : fetch image n at ≡ Some x

-- an instruction of this size is spelled there, and the next one follows it
pub record IsThere (units : List ℕ) (at : ℕ) (x : At) : Type 0 where
  pub insn : Insn
  pub size : ℕ
  pub read : insn_here (drop at units) ≡ Some (record { insn = insn; size = size })
  pub next : x.next ≡ at + size

-- the operation is that of this instruction
pub record IsFetched (image : Image) (code : Code) (at : ℕ) (i : Insn) (size : ℕ) (x : At) : Type 0 where
  pub op : op_of image code at i ≡ Ok x.op
  pub next : x.next ≡ at + size
  pub rules : insn_rules image code at i ≡ []

abbrev pub FetchedIsThere : Type 0
FetchedIsThere = (image : Image) (n at : ℕ) (units : List ℕ) (x : At) → StandsAt image n units at x → IsThere units at x

abbrev pub FetchedIsDecoded : Type 0
FetchedIsDecoded =
    (image : Image) (n at : ℕ) (code : Code) (i : Insn) (size : ℕ) (x : At) → code_at image n ≡ Some code → fetch image n at ≡ Some x →
    insn_here (drop at code.body.units) ≡ Some (record { insn = i; size = size }) → IsFetched image code at i size x

-- a method's items are those of its units
abbrev pub TilesAreOfUnits : Type 0
TilesAreOfUnits = (image : Image) (n : ℕ) (code : Code) → code_at image n ≡ Some code → code.tiles ≡ tiles_in (tiling code.body.units)

-- a payload that the items have is spelled where it stands
pub record IsSpelled (units : List ℕ) (at : ℕ) (p : Payload) : Type 0 where
  pub size : ℕ
  pub read : piece_here (drop at units) ≡ Some (record { item = IsPayload p; size = size })

abbrev pub PayloadsAreThere : Type 0
PayloadsAreThere = (units : List ℕ) (at : ℕ) (p : Payload) → payload_at (tiles_in (tiling units)) at ≡ Some p → IsSpelled units at p
