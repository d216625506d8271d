-- The result of a call that is still to be moved to a register.
use Rattle.std.specs.Prelude.{ℕ}
use Rattle.dv_machine.specs.Value.{Value}

-- none, one word, or the two words of a long, low first
pub data Pending : Type 0 where
  None : Pending
  One : (value : Value) → Pending
  Two : (lo hi : ℕ) → Pending
