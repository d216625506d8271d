use Rattle.std.proofs.Common.{ap, subst, sym, arith, length}
use Rattle.std.specs.List.Sorted.{IsNonDecreasingBy}
use Rattle.dv_clinit.specs.Initialisers.{declaring_class}
use Rattle.dv_clinit.proofs.Numbered.{methods_few, methods_rise}
use Rattle.dv_clinit.proofs.methods.methods_of.Goals as goal

pub returns-clause-few : goal.returns-clause-few
returns-clause-few c = omega (arith, methods_few _ c.image.invariant.0, ap length c.items.ensures)

pub returns-clause-by_class : goal.returns-clause-by_class
returns-clause-by_class c = subst (IsNonDecreasingBy declaring_class) (sym c.items.ensures) (methods_rise _ c.image.invariant.0)
