use Rattle.dv_classread.proofs.Adding.{adds_superclass, keeps_superclass, none_last, not_some, nowhere_superclass}
use Rattle.dv_classread.proofs.program.ClassesSoFar.add_superclass.Goals as goal

pub returns-then-is_none : goal.returns-then-is_none
returns-then-is_none c = adds_superclass c.args.self.now c.in-Some.class c.in-Some.is c.args.name (not_some c.in-Some.class.parent c.if-is_none.ensures)

pub returns-else-is_none : goal.returns-else-is_none
returns-else-is_none c = keeps_superclass c.args.self.now c.in-Some.class c.in-Some.is c.args.name c.if-is_none.ensures

pub returns-in_default : goal.returns-in_default
returns-in_default c = nowhere_superclass c.args.self.now c.args.name (none_last c.args.self.now.last c.in_default.not-Some)
