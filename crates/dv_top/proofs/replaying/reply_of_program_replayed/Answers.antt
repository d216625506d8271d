use Rattle.std.proofs.Common.{All, List, sym, subst}
use Rattle.std.proofs.lemmas.Result.{IfOk-weaker}
use Rattle.dv_defs.specs.declared.run.Entry.{Entry}
use Rattle.dv_rules.specs.Verified.{VerifiedValue}
use Rattle.dv_workers.specs.Entries.{IsOfWorker}
use Rattle.dv_top.specs.Said.{NotReplayed}
use Rattle.dv_top.proofs.RunningLemmas.{entries_of_replay, idle_of_replay, log_of_replay, main_at, said_refused, said_replayed, told_of_replay}
use Rattle.dv_top.proofs.replaying.reply_of_program_replayed.Goals as goal

pub returns-in-Ok-clause-told : goal.returns-in-Ok-clause-told
returns-in-Ok-clause-told g c =
    let h = c.requires.main in
    let main = main_at c.in-Ok.verified.image c.args.program.image c.args.program.main.0 c.in-Ok.ensures.same h in
    IfOk-weaker c.reply_of_replay-reply.result _ _ (λ reply r. told_of_replay _ _ _ _ _ _ _ r) (c.reply_of_replay-reply.ensures.replayed h.method main)

pub returns-in-Ok-clause-idle : goal.returns-in-Ok-clause-idle
returns-in-Ok-clause-idle g c =
    let h = c.requires.main in
    let main = main_at c.in-Ok.verified.image c.args.program.image c.args.program.main.0 c.in-Ok.ensures.same h in
    IfOk-weaker c.reply_of_replay-reply.result _ _ (λ reply r. idle_of_replay _ _ _ _ _ _ _ r) (c.reply_of_replay-reply.ensures.replayed h.method main)

pub returns-in-Ok-clause-entries : goal.returns-in-Ok-clause-entries
returns-in-Ok-clause-entries g c =
    let h = c.requires.main in
    let main = main_at c.in-Ok.verified.image c.args.program.image c.args.program.main.0 c.in-Ok.ensures.same h in
    entries_of_replay c.reply_of_replay-reply.result c.in-Ok.verified.image h.method c.args.limits.now c.items.result.now c.reply_of_replay-reply.new.log.items (subst (λ (es : List Entry). All IsOfWorker es) (sym c.items.ensures) c.requires.schedule) (c.reply_of_replay-reply.ensures.replayed h.method main) c.reply_of_replay-reply.ensures.wanting

pub returns-in-Ok-clause-said : goal.returns-in-Ok-clause-said
returns-in-Ok-clause-said g c bytes found small is =
    let h = c.requires.main in
    let main = main_at c.in-Ok.verified.image c.args.program.image c.args.program.main.0 c.in-Ok.ensures.same h in
    IfOk-weaker c.reply_of_replay-reply.result _ _ (λ reply r. said_replayed bytes found c.args.program c.in-Ok.verified.image c.items.result.now c.args.limits.now c.reply_of_replay-reply.new.log.items h _ _ c.in-Ok.ensures.same c.items.ensures small is c.in-Ok.ensures.accepted r) (c.reply_of_replay-reply.ensures.replayed h.method main)

pub returns-in-Ok-clause-legal : goal.returns-in-Ok-clause-legal
returns-in-Ok-clause-legal g c bytes found small is some =
    let h = c.requires.main in
    let main = main_at c.in-Ok.verified.image c.args.program.image c.args.program.main.0 c.in-Ok.ensures.same h in
    log_of_replay bytes found c.args.program c.in-Ok.verified.image c.items.result.now c.args.limits.now c.reply_of_replay-reply.new.log.items c.reply_of_replay-reply.result h c.in-Ok.ensures.same c.items.ensures small is c.in-Ok.ensures.accepted (c.reply_of_replay-reply.ensures.replayed h.method main) c.reply_of_replay-reply.ensures.wanting some

pub returns-clause-said : goal.returns-clause-said
returns-clause-said g c bytes found small is =
    IfOk-weaker c.faulty.result _ _ (λ reply told. NotReplayed (said_refused VerifiedValue bytes found c.args.program c.in-Err.error reply.status reply.text.items small is c.in-Err.ensures.image c.in-Err.ensures.faults c.in-Err.ensures.refused told)) c.faulty.ensures
