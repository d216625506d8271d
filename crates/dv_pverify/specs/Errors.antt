-- What is said of an answer that tells an image's faults.
use Rattle.std.specs.Prelude.{List, Result, Err}
use Rattle.dv_defs.specs.Images.{Image}
use Rattle.dv_defs.specs.declared.faults.Fault.{Fault}
use Rattle.dv_pverify.specs.declared.errors.VerifyError.{VerifyError}
use Rattle.dv_pverify.specs.declared.errors.VerifyError.TheVariants as error

abbrev pub IfFaults : {A : Type 0} → Result A VerifyError → (Image → List Fault → Type 0) → Type 0
IfFaults (Err (error.Faults image fs)) P = P image fs
IfFaults r P = Unit {0}
