use Rattle.dv_top.proofs.WorkingLemmas.{followed_by, risen_by}
use Rattle.dv_top.proofs.by_workers.write_tail.Goals as goal

pub returns-in-Ok-clause-followed : goal.returns-in-Ok-clause-followed
returns-in-Ok-clause-followed g c main m at =
    followed_by g.K.Sink.taken g.K.Sink.faults _ main _ _ c.args.behind _ c.in-Ok.reply.status _ c.in-Ok.reply.text.items _ _ (c.in-Ok.ensures.ran main m at) c.write_reply-status.ensures.written

pub returns-in-Ok-clause-write_fault : goal.returns-in-Ok-clause-write_fault
returns-in-Ok-clause-write_fault g c told =
    risen_by g.K.Sink.taken g.K.Sink.faults c.in-Ok.reply.status _ c.in-Ok.reply.text.items _ _ c.write_reply-status.ensures.written c.in-Ok.ensures.good told
