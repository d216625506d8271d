-- What the verifier knows of registers, and its order.
use Rattle.std.specs.Prelude.{◌≡◌, ℕ, Bool, true, false, List, [], ◌∷◌, ◌++◌, length, Option, Some, None, slice_index_or, nat_eq}
use Rattle.dv_defs.specs.declared.names.Ty.{Ty}
use Rattle.dv_defs.specs.Images.{Image}
use Rattle.dv_typing.specs.declared.typing.RegType.{RegType}
use Rattle.dv_typing.specs.declared.typing.RegType.TheVariants as ty
use Rattle.dv_typing.specs.declared.typing.PendingType.{PendingType}
use Rattle.dv_typing.specs.declared.typing.PendingType.TheVariants as pend
use Rattle.dv_typing.specs.declared.typing.RegState.{RegState}
use Rattle.dv_defs.specs.Types.{is_reference, is_long}
use Rattle.dv_defs.specs.Order.{sub}

-- the register types of a value of a declared type: a long has two, a narrow type is an int
abbrev pub single_type : Ty → RegType
single_type t = elim (is_reference t) [ true ↦ ty.Class t | false ↦ ty.Int ]

abbrev pub reg_types : Ty → List RegType
reg_types t = elim (is_long t) [ true ↦ ty.LongLo ∷ ty.LongHi ∷ [] | false ↦ single_type t ∷ [] ]

abbrev pub all_types : List Ty → List RegType
all_types [] = []
all_types (t ∷ ts) = reg_types t ++ all_types ts

-- the types of registers
abbrev pub Types : Type 0
Types = List RegType

abbrev pub type_at : Types → ℕ → RegType
type_at ts k = slice_index_or ts k ty.Conflict

-- Zero is under Int and every class, a class under what it is a subtype of, each type under Conflict
abbrev pub under : Image → RegType → RegType → Bool
under image s ty.Conflict = true
under image ty.Zero ty.Zero = true
under image ty.Zero ty.Int = true
under image ty.Zero (ty.Class c) = true
under image ty.Int ty.Int = true
under image ty.LongLo ty.LongLo = true
under image ty.LongHi ty.LongHi = true
under image (ty.Class c) (ty.Class d) = sub image c d
under image (ty.Uninit a) (ty.Uninit b) = nat_eq a b
under image ty.UninitThis ty.UninitThis = true
under image s t = false

-- the pending result is equal, or none above
abbrev pub UnderPending : PendingType → PendingType → Type 0
UnderPending r pend.None = Unit {0}
UnderPending r (pend.One t) = r ≡ pend.One t
UnderPending r pend.Long = r ≡ pend.Long

-- the caught type is under the other, or none above
abbrev pub UnderCaught : Image → Option Ty → Option Ty → Type 0
UnderCaught image c None = Unit {0}
UnderCaught image None (Some d) = ⊥
UnderCaught image (Some c) (Some d) = sub image c d ≡ true

-- a state is under another
pub record IsBelow (image : Image) (s t : RegState) : Type 0 where
  pub each : (k : ℕ) → under image (type_at s.regs k) (type_at t.regs k) ≡ true
  pub count : length s.regs ≡ length t.regs
  pub result : UnderPending s.result t.result
  pub caught : UnderCaught image s.caught t.caught
  -- `this` is pending only where it is above
  pub this_pending : s.this_pending ≡ true → t.this_pending ≡ true
