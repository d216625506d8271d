-- Where the offsets of a body lead to.
use Rattle.std.specs.Prelude.{ℕ, ℤ, Bool, List, Option}
use Rattle.std.specs.List.{list_all}
use Rattle.dv_defs.specs.declared.code.Insn.{Insn}
use Rattle.dv_defs.specs.declared.code.Payload.{Payload}
use Rattle.dv_defs.specs.Numbers.{jump}
use Rattle.dv_defs.specs.Families.{family_at}
use Rattle.dv_defs.specs.Tiling.{Tile, begins_insn, payload_at}
use Rattle.dv_ops.specs.Meaning.{cases_in, has_payload_of}

-- each offset leads from an address to an instruction
abbrev pub offsets_lead : List Tile → ℕ → List ℤ → Bool
offsets_lead tiles at offs = list_all (λ off. begins_insn tiles (jump at off)) offs

-- each case of the switch at an address does
abbrev pub cases_lead : List Tile → ℕ → Option Payload → Bool
cases_lead tiles at p = list_all (λ c. begins_insn tiles c.to) (cases_in at p)

-- at an instruction's target stands a payload of its kind, where it needs one
abbrev pub payload_stands : List Tile → ℕ → Insn → Bool
payload_stands tiles at i = has_payload_of (family_at i.op) (payload_at tiles (jump at i.off))
