-- What words say.
use Rattle.std.specs.Prelude.{◌≡◌, ℕ, List, All, map}
use Rattle.dv_typing.specs.declared.typing.RegType.{RegType}
use Rattle.dv_typing.specs.declared.typing.PendingType.{PendingType}
use Rattle.dv_typing.specs.declared.typing.RegState.{RegState}
use Rattle.dv_typing.specs.RegTypes.{Types}
use Rattle.dv_typing.specs.Transfer.{caught_type}
use Rattle.dv_bases.specs.declared.states.PendingWord.{PendingWord}
use Rattle.dv_bases.specs.Bases.{Names, word_type, IsWord}
use Rattle.dv_bases.specs.States.{IsPending, pending_of}

-- a word says this type
pub record Says (names : Names) (w : ℕ) (t : RegType) : Type 0 where
  pub word : IsWord names w
  pub said : word_type names w ≡ t

-- the words of registers say these types
pub record SayAll (names : Names) (ws : List ℕ) (ts : Types) : Type 0 where
  pub words : All (IsWord names) ws
  pub said : map (word_type names) ws ≡ ts

-- the word of a pending result says this one
pub record SaysPending (names : Names) (w : PendingWord) (p : PendingType) : Type 0 where
  pub word : IsPending names w
  pub said : pending_of names w ≡ p

-- words of registers, of a pending result and of what was caught say what a state has of these
pub record SayState (names : Names) (ws : List ℕ) (pending : PendingWord) (caught : ℕ) (s : RegState) : Type 0 where
  pub registers : SayAll names ws s.regs
  pub result : SaysPending names pending s.result
  pub handled : Says names caught (caught_type s.caught)
