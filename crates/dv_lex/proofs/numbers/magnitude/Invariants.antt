use Rattle.std.proofs.Common.{◌≡◌, ◌<◌, ◌^◌, drop}
use Rattle.dv_lex.specs.Numbers.{value_from}
use Rattle.dv_lex.proofs.numbers.magnitude.Given as goal

abbrev pub invariant-loop-digit : goal.invariant-loop-digit
invariant-loop-digit l = record {
  small : l.value < 2 ^ 64;
  so_far : value_from l.base l.value (drop l.digit-index l.digits) ≡ value_from l.base 0 l.digits;
}
