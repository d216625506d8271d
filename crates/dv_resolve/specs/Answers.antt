-- What calls answer for what the definitions give.
use Rattle.std.specs.Prelude.{◌≡◌, Result, Ok, Err}
use Rattle.dv_defs.specs.declared.faults.LinkError.{LinkError}
use Rattle.dv_defs.specs.declared.faults.LinkError.TheVariants as error
use Rattle.dv_defs.specs.declared.names.MethodId.{MethodId}
use Rattle.dv_defs.specs.Pools.{Method}
use Rattle.dv_defs.specs.LinkFaults.{Found, found}

-- just what is given, the value or the fault, unless memory was wanting
abbrev pub Answers : {X : Type 0} → Result X Found → Result X LinkError → Type 0
Answers given (Ok x) = given ≡ Ok x
Answers given (Err error.Memory) = Unit {0}
Answers given (Err (error.At class kind)) = given ≡ Err (found class kind)

-- the method that is found by its number
abbrev pub numbered_main : Result Method Found → Result MethodId Found
numbered_main (Ok m) = Ok (record { 0 = m.id })
numbered_main (Err fault) = Err fault
