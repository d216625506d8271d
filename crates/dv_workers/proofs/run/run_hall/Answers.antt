use Rattle.std.proofs.Common.{◌∙◌, ap}
use Rattle.dv_workers.proofs.Kept.{done_alike}
use Rattle.dv_workers.proofs.run.run_hall.Goals as goal

pub returns-clause-over : goal.returns-clause-over
returns-clause-over g c =
    let same = c.audit.ensures.same in
    let is = c.into_inner-desk.ensures in
    done_alike _ _ _ _ _ _ (same.2 ∙ ap (λ d. d.memory) is) (same.3 ∙ ap (λ d. d.fault) is) (same.0 ∙ ap (λ d. d.vm) is) c.finish-held.ensures.over
