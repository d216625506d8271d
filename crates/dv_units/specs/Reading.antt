-- What stands in units.
use Rattle.std.specs.Prelude.{ℕ, ◌≡◌, ◌%◌, List, length, take, drop, slice_index, Option, Some, None}
use Rattle.dv_defs.specs.declared.code.Insn.{Insn}
use Rattle.dv_defs.specs.Spelling.{spelling}

-- the opcode of the instruction at an address: the low byte of its first unit
abbrev pub opcode_at : List ℕ → ℕ → ℕ
opcode_at units at = slice_index units at % 256

-- these units stand at an address of the others
abbrev pub StandAt : List ℕ → List ℕ → ℕ → Type 0
StandAt us units at = us ≡ take (length us) (drop at units)

-- no instruction's spelling stands at an address
abbrev pub NoneStandsAt : List ℕ → ℕ → Type 0
NoneStandsAt units at = (insn : Insn) (us : List ℕ) → spelling insn ≡ Some us → StandAt us units at → ⊥

-- the instruction with this spelling, none where no instruction has it
abbrev pub IsReading : (Insn → Option (List ℕ)) → List ℕ → Option Insn → Type 0
IsReading spelling_of us (Some i) = spelling_of i ≡ Some us
IsReading spelling_of us None = (i : Insn) → spelling_of i ≡ Some us → ⊥
