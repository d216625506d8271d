use Rattle.std.proofs.Common.{sym, ◌∙◌}
use Rattle.dv_top.proofs.AnswerLemmas.{text_read}
use Rattle.dv_top.proofs.WorkingLemmas.{answered}
use Rattle.dv_top.proofs.by_workers.run_by_workers.Goals as goal

pub returns-in-Ok : goal.returns-in-Ok
returns-in-Ok g c asked asks reads =
    answered asked c.args.class.now c.args.how.now asks g.S.Source.left g.S.Source.faults g.K.Sink.taken g.K.Sink.faults _ _ _ _ c.in-Ok.prepared _ _ (λ _. c.in-Ok.ensures.source_read) (λ unread. absurd (unread reads)) c.in-Ok.ensures.ready
    (λ bytes is. c.in-Ok.ensures.prepared bytes (sym (text_read asked reads _) ∙ is)) c.run_prepared.ensures
