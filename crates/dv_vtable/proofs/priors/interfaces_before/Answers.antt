use Rattle.std.proofs.lemmas.Result.{IfOk-weaker}
use Rattle.dv_vtable.proofs.PriorLaws.{all_before, closed_range, ends_all}
use Rattle.dv_vtable.proofs.priors.interfaces_before.Goals as goal

pub add_all-requires-clause-steps : goal.add_all-requires-clause-steps
add_all-requires-clause-steps c = ends_all c.args.infos.now c.args.interfaces.now c.requires.ordered c.requires.interfaces

pub returns-clause-range : goal.returns-clause-range
returns-clause-range c =
    IfOk-weaker c.into_seq.result _ _ (λ before same. closed_range c.args.infos.now c.add_all.new.pool before c.in_ok-add_all.ensures.closed same) c.into_seq.ensures

pub returns-clause-before : goal.returns-clause-before
returns-clause-before c =
    IfOk-weaker c.into_seq.result _ _
    (λ before same. all_before c.args.infos.now _ c.new-pool.result c.add_all.new.pool before c.args.interfaces.now c.new-pool.ensures c.in_ok-add_all.ensures.added same) c.into_seq.ensures
