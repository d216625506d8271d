use Rattle.dv_top.proofs.replaying.reply_of_replayed.Goals as goal

pub returns-clause-ran : goal.returns-clause-ran
returns-clause-ran c main is = (c.into_log-done.ensures, c.in_ok-reply.ensures main is)
