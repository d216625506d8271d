use Rattle.std.proofs.Common.{◌∙◌}
use Rattle.dv_workers.proofs.Kept.{done_alike, done_on}
use Rattle.dv_workers.proofs.run.left.Goals as goal

pub returns-clause-over : goal.returns-clause-over
returns-clause-over g c =
    let poured = c.pour_rest.ensures.same in
    let same = c.cleared.ensures.same in
    done_alike _ _ _ _ _ _ (same.3 ∙ poured.1) same.2 (same.0 ∙ poured.0) (done_on c.args.desk.memory c.args.desk.fault c.pour_rest.new.self.fault c.args.desk.vm c.requires.over c.pour_rest.ensures.fault)
