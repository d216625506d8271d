-- The state that words say.
use Rattle.std.specs.Prelude.{map, Option, All, IfSome, option_map}
use Rattle.dv_defs.specs.declared.names.Ty.{Ty}
use Rattle.dv_typing.specs.declared.typing.PendingType.{PendingType}
use Rattle.dv_typing.specs.declared.typing.PendingType.TheVariants as pend
use Rattle.dv_typing.specs.declared.typing.RegState.{RegState}
use Rattle.dv_bases.specs.declared.words.Reference.{Reference}
use Rattle.dv_bases.specs.declared.states.PendingWord.{PendingWord}
use Rattle.dv_bases.specs.declared.states.PendingWord.TheVariants as word
use Rattle.dv_bases.specs.declared.states.Words.{Words}
use Rattle.dv_bases.specs.Bases.{Names, type_of, word_type, IsNumbered, IsWord}

abbrev pub pending_of : Names → PendingWord → PendingType
pending_of names word.None = pend.None
pending_of names (word.One w) = pend.One (word_type names w)
pending_of names word.Long = pend.Long

abbrev pub caught_of : Names → Option Reference → Option Ty
caught_of names c = option_map (type_of names) c

abbrev pub state_of : Names → Words → RegState
state_of names w =
    record {
      regs = map (word_type names) w.regs.items;
      result = pending_of names w.result;
      caught = caught_of names w.caught;
      this_pending = w.this_pending;
    }

abbrev pub IsPending : Names → PendingWord → Type 0
IsPending names (word.One w) = IsWord names w
IsPending names w = Unit {0}

-- each of its words is one
pub record AreWords (names : Names) (w : Words) : Type 0 where
  pub regs : All (IsWord names) w.regs.items
  pub result : IsPending names w.result
  pub caught : IfSome w.caught (IsNumbered names)
