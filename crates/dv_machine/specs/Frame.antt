-- A method that runs.
use Rattle.std.specs.Prelude.{ℕ, Bool, List, Option}
use Rattle.dv_defs.specs.declared.names.MethodId.{MethodId}
use Rattle.dv_machine.specs.Value.{Value}
use Rattle.dv_machine.specs.Pending.{Pending}

pub record Frame : Type 0 where
  pub method : MethodId
  -- of its next instruction
  pub at : ℕ
  pub regs : List Value
  pub result : Pending
  -- the exception object that a handler was entered with
  pub caught : Option ℕ
  -- in a constructor: whether the superclass's constructor is still to be called
  pub this_pending : Bool
