-- The operations that are done here.
use Rattle.std.specs.Prelude.{Bool, true, false, not}
use Rattle.dv_defs.specs.Op.{Op, Invoke, Return, ReturnVoid}
use Rattle.dv_words.specs.Steps.{At}
use Rattle.dv_call.specs.Landings.{runs_native}

-- a return, or an invoke that runs no native
abbrev pub is_call : At → Op → Bool
is_call h (Invoke c ks g) = not (runs_native h c ks g)
is_call h ReturnVoid = true
is_call h (Return w a) = true
is_call h op = false
