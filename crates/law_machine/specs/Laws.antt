-- The laws of types, of transfer and demand, and of acceptance, as statements.
use Rattle.std.specs.Prelude.{◌≡◌, ℕ, List, length, Some}
use Rattle.dv_defs.specs.Images.{Image}
use Rattle.std.specs.Prelude.{◌≤◌, ◌↔◌, take}
use Rattle.dv_defs.specs.Spelling.{spelling, AreUnits}
use Rattle.dv_defs.specs.Decoding.{Sized, insn_here}
use Rattle.dv_typing.specs.Accepting.{Accepts}
use Rattle.dv_machine.specs.WellTyped.{Typings}
use Rattle.dv_machine.specs.Accepted.{IsTyped, FindsRightly}

-- ---- instructions and units

-- the first units are the spelling of the instruction
pub record IsSpelledHere (us : List ℕ) (x : Sized) : Type 0 where
  pub spelled : spelling x.insn ≡ Some (take x.size us)
  pub whole : x.size ≤ length us

-- an instruction stands where its spelling does
abbrev pub DecodingInvertsSpelling : Type 0
DecodingInvertsSpelling = (us : List ℕ) → AreUnits us → (x : Sized) → (insn_here us ≡ Some x) ↔ IsSpelledHere us x

-- ---- acceptance and look-up

-- each address that has a state keeps a record of what it owes
abbrev pub AcceptanceGivesRecords : Type 0
AcceptanceGivesRecords = (image : Image) → Accepts image → (T : Typings) × IsTyped image T

-- in any image
abbrev pub LookUpsFind : Type 0
LookUpsFind = (image : Image) → FindsRightly image
