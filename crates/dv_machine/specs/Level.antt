-- A level of a thread's stack.
use Rattle.std.specs.Prelude.{Bool}
use Rattle.dv_defs.specs.declared.names.ClassId.{ClassId}
use Rattle.dv_machine.specs.Frame.{Frame}

-- a frame of code, or the record of a class that is being initialised, which is running once its initialiser was called
pub data Level : Type 0 where
  Code : (frame : Frame) → Level
  Init : (class : ClassId) (running : Bool) → Level
