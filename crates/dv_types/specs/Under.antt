-- The order of states as a test.
use Rattle.std.specs.Prelude.{Bool, true, false, ◌&&◌, ◌||◌, not, [], ◌∷◌, Option, Some, None}
use Rattle.dv_defs.specs.declared.names.Ty.{Ty}
use Rattle.dv_defs.specs.Images.{Image}
use Rattle.dv_typing.specs.declared.typing.PendingType.{PendingType}
use Rattle.dv_typing.specs.declared.typing.PendingType.TheVariants as pend
use Rattle.dv_typing.specs.declared.typing.RegState.{RegState}
use Rattle.dv_defs.specs.Order.{sub}
use Rattle.dv_typing.specs.RegTypes.{Types, under}
use Rattle.dv_typing.specs.Joins.{same_type}

-- equally many registers, each under the other's
abbrev pub regs_under : Image → Types → Types → Bool
regs_under image [] [] = true
regs_under image (s ∷ ss) (t ∷ ts) = under image s t && regs_under image ss ts
regs_under image ss ts = false

-- equal, or none above
abbrev pub pending_under : PendingType → PendingType → Bool
pending_under r pend.None = true
pending_under (pend.One s) (pend.One t) = same_type s t
pending_under pend.Long pend.Long = true
pending_under r p = false

abbrev pub caught_under : Image → Option Ty → Option Ty → Bool
caught_under image c None = true
caught_under image None (Some d) = false
caught_under image (Some c) (Some d) = sub image c d

abbrev pub state_under : Image → RegState → RegState → Bool
state_under image s t =
    regs_under image s.regs t.regs && (pending_under s.result t.result && (caught_under image s.caught t.caught && (not s.this_pending || t.this_pending)))
