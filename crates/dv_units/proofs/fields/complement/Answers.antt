use Rattle.std.proofs.Common.{ap, rules}
use Rattle.dv_units.proofs.Numbers.{complement_of_negative}
use Rattle.dv_units.proofs.fields.complement.Goals as goal
use lib.IntN.{nat_abs}

pub overflow_cast-result-then-value-lt0 : goal.overflow_cast-result-then-value-lt0
overflow_cast-result-then-value-lt0 c =
    let e = complement_of_negative c.args.bits c.args.value c.requires.above c.requires.below c.requires.fits c.if-value-lt0.true in
    rw e.0 (search rules)

pub returns-then-value-lt0-clause-value : goal.returns-then-value-lt0-clause-value
returns-then-value-lt0-clause-value c = ap nat_abs (complement_of_negative c.args.bits c.args.value c.requires.above c.requires.below c.requires.fits c.if-value-lt0.true).0
