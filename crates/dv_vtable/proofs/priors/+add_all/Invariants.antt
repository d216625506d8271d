use Rattle.std.proofs.Common.{drop}
use Rattle.dv_vtable.proofs.PriorLaws.{IsAdding}
use Rattle.dv_vtable.proofs.priors.+add_all.Given as goal

abbrev pub decreases-add_all : goal.decreases-add_all
decreases-add_all l = l.steps

abbrev pub invariant-loop-id : goal.invariant-loop-id
invariant-loop-id l = IsAdding l.infos l.steps l.fn.pool l.pool l.interfaces (drop l.id-index l.interfaces)
