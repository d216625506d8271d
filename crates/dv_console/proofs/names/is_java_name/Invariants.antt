use Rattle.std.proofs.Common.{◌≡◌, drop, false}
use Rattle.dv_console.specs.Words.{is_name_rest}
use Rattle.dv_console.proofs.names.is_java_name.Given as goal

abbrev pub invariant-loop-b : goal.invariant-loop-b
invariant-loop-b l = is_name_rest false l.name ≡ is_name_rest l.begun (drop l.b-index l.name)
