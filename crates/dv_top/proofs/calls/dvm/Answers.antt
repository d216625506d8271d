use Rattle.dv_top.proofs.AnswerLemmas.{by_reported, reply_to_unread}
use Rattle.std.proofs.Common.{sym, ◌∙◌}
use Rattle.dv_top.specs.Said.{usage}
use Rattle.dv_top.specs.declared.status.Status.TheVariants as exit
use Rattle.dv_top.proofs.calls.dvm.Goals as goal

pub returns-in-Ok-None : goal.returns-in-Ok-None
returns-in-Ok-None g c =
    by_reported g.S.Source.left g.S.Source.faults g.K.Sink.taken g.K.Sink.faults _ _ _ _ _ _ exit.Usage usage _
    (reply_to_unread g.S.Source.left _ _ _ (sym c.in-Ok-None.ensures.asked ∙ c.in-Ok-None.field-0-is) c.report_of_usage.ensures.log) c.report_of_usage.ensures.written
