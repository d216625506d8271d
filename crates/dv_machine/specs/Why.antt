-- Why a step of the tagged machine is stuck.

-- a register was never written, isn't a whole long, holds an object that isn't initialised, or a wrong reference; no result is pending,
-- no exception was caught, or no instruction is there
pub data Why : Type 0 where
  Undefined : Why
  Pair : Why
  Uninitialised : Why
  Reference : Why
  Result : Why
  Exception : Why
  Instruction : Why
