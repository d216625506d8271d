use Rattle.std.specs.Str.Iter.{chars_rest}
use Rattle.dv_lex.proofs.Literals.Fronts.{IsReadTo}
use Rattle.dv_lex.proofs.literal.string_units.Given as goal

abbrev pub invariant-loop-c : goal.invariant-loop-c
invariant-loop-c l = IsReadTo l.literal l.units.items (chars_rest l.rest)
