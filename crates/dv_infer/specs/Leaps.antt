-- A state in which a conflict stands in place of a class that no closed assignment has there.
use Rattle.std.specs.Prelude.{◌≡◌, ℕ, Bool, true, false, slice_set}
use Rattle.dv_defs.specs.declared.names.Ty.{Ty}
use Rattle.dv_defs.specs.Images.{Image}
use Rattle.dv_defs.specs.Op.{Code}
use Rattle.dv_typing.specs.declared.typing.RegType.{RegType}
use Rattle.dv_typing.specs.declared.typing.RegType.TheVariants as ty
use Rattle.dv_typing.specs.declared.typing.RegState.{RegState}
use Rattle.dv_typing.specs.RegTypes.{type_at}
use Rattle.dv_worklist.specs.Beside.{Kept, kept}
use Rattle.dv_bases.specs.Bases.{Names}
use Rattle.dv_bases.specs.declared.words.Part.{Part}
use Rattle.dv_bases.specs.declared.words.Part.TheVariants as part
use Rattle.law_levels.specs.Levels.{HasNoClass}

abbrev pub is_class : Part → Bool
is_class (part.Class c) = true
is_class p = false

abbrev pub HasClass : RegType → Type 0
HasClass t = (c : Ty) × (t ≡ ty.Class c)

-- a state with a conflict in one register
abbrev pub with_conflict : RegState → ℕ → RegState
with_conflict s k = record { regs = slice_set s.regs k ty.Conflict; result = s.result; caught = s.caught; this_pending = s.this_pending }

-- a state has a class or an array in the register, and no closed assignment has one there
pub record IsWithoutClass (image : Image) (code : Code) (place : ℕ) (s : RegState) (register : ℕ) : Type 0 where
  pub class : HasClass (type_at s.regs register)
  pub none : HasNoClass image code place register

-- a row with a conflict in such a register
pub record IsLeap (names : Names) (code : Code) (place : ℕ) (row more : Kept RegState Names) : Type 0 where
  pub register : ℕ
  pub without : IsWithoutClass names.image code place row.state register
  pub is : more ≡ kept names (with_conflict row.state register)
