-- What is said of an answer that tells faults.
use Rattle.std.specs.Prelude.{List, Result, Err}
use Rattle.dv_defs.specs.declared.faults.Fault.{Fault}
use Rattle.dv_infer.specs.declared.errors.InferError.{InferError}
use Rattle.dv_infer.specs.declared.errors.InferError.TheVariants as error

abbrev pub IfFaults : {A : Type 0} → Result A InferError → (List Fault → Type 0) → Type 0
IfFaults (Err (error.Faults fs)) P = P fs
IfFaults r P = Unit {0}
