-- Joins of register types and of states.
use Rattle.std.specs.Prelude.{Bool, true, false, ◌||◌, [], ◌∷◌, Option, Some, None, nat_eq}
use Rattle.dv_defs.specs.declared.names.Ty.{Ty}
use Rattle.dv_defs.specs.Images.{Image}
use Rattle.dv_typing.specs.declared.typing.RegType.{RegType}
use Rattle.dv_typing.specs.declared.typing.RegType.TheVariants as ty
use Rattle.dv_typing.specs.declared.typing.PendingType.{PendingType}
use Rattle.dv_typing.specs.declared.typing.PendingType.TheVariants as pend
use Rattle.dv_typing.specs.declared.typing.RegState.{RegState}
use Rattle.dv_defs.specs.Types.{ty_eq}
use Rattle.dv_defs.specs.Common.{common_super}
use Rattle.dv_typing.specs.RegTypes.{Types, under}

abbrev pub join_classes : Image → RegType → RegType → RegType
join_classes image (ty.Class a) (ty.Class b) = ty.Class (common_super image a b)
join_classes image s t = ty.Conflict

-- the least type above two
abbrev pub join_type : Image → RegType → RegType → RegType
join_type image s t = elim (under image s t) [ true ↦ t | false ↦ elim (under image t s) [ true ↦ s | false ↦ join_classes image s t ] ]

abbrev pub joined : Image → Types → Types → Types
joined image (s ∷ ss) (t ∷ ts) = join_type image s t ∷ joined image ss ts
joined image ss ts = []

abbrev pub same_type : RegType → RegType → Bool
same_type ty.Conflict ty.Conflict = true
same_type ty.Zero ty.Zero = true
same_type ty.Int ty.Int = true
same_type ty.LongLo ty.LongLo = true
same_type ty.LongHi ty.LongHi = true
same_type (ty.Class a) (ty.Class b) = ty_eq a b
same_type (ty.Uninit a) (ty.Uninit b) = nat_eq a b
same_type ty.UninitThis ty.UninitThis = true
same_type s t = false

-- a pending result that both have
abbrev pub join_result : PendingType → PendingType → PendingType
join_result (pend.One s) (pend.One t) = elim (same_type s t) [ true ↦ pend.One t | false ↦ pend.None ]
join_result pend.Long pend.Long = pend.Long
join_result r s = pend.None

abbrev pub join_caught : Image → Option Ty → Option Ty → Option Ty
join_caught image (Some a) (Some b) = Some (common_super image a b)
join_caught image a b = None

-- the least state above two with equally many registers
abbrev pub join_state : Image → RegState → RegState → RegState
join_state image s t =
    record {
      regs = joined image s.regs t.regs;
      result = join_result s.result t.result;
      caught = join_caught image s.caught t.caught;
      this_pending = s.this_pending || t.this_pending;
    }
