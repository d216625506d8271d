use Rattle.std.proofs.Common.{◌≡◌, Some, Err, ap, refl, subst, sym, ◌∙◌}
use Rattle.dv_console.specs.declared.command.Cmd.TheVariants as cmd
use Rattle.dv_top.specs.declared.status.Status.{Status}
use Rattle.dv_top.specs.Answering.{IsAnswer}
use Rattle.dv_top.specs.Status.{code_of}
use Rattle.dv_top.proofs.AnswerLemmas.{alone_not_by_workers, alone_reads, by_written, no_reply, text_read}
use Rattle.dv_top.proofs.answering.answer.Goals as goal

pub returns-in-Ok : goal.returns-in-Ok
returns-in-Ok g c =
    let reply = c.in-Ok.ensures in
    let reads = alone_reads c.args.command.now c.requires.alone in
    let text = text_read (Some c.args.command.now) reads (g.S.Source.left c.args.source.now) in
    by_written g.S.Source.left g.S.Source.faults g.K.Sink.taken g.K.Sink.faults _ _ _ _ _ _ c.in-Ok.reply.status _ c.in-Ok.reply.text.items
    (record {
      unread = λ unread. absurd (cc);
      usage = λ usage. absurd (reply.told.1 usage);
      told = reply.told.0;
      source_left = λ unread. absurd (unread reads);
      source_read = λ _. reply.source_read;
      said = λ bytes is. reply.said bytes (sym text ∙ is);
      entries = reply.entries;
      idle = reply.idle;
      not_run = reply.not_run;
      legal = λ bytes is. reply.legal bytes (sym text ∙ is);
    })
    c.write_reply-status.ensures.written

pub returns-in-Err : goal.returns-in-Err
returns-in-Err g c =
    let command = c.args.command.now in
    let reply = c.in-Err.ensures in
    subst (λ (s : Status). IsAnswer g.S.Source.left g.S.Source.faults g.K.Sink.taken g.K.Sink.faults (Some command) c.args.source.now c.reply_to_source.new.source c.args.sink.now c.args.sink.now c.reply_to_source.new.log.items (code_of s)) (sym c.status.ensures)
    (no_reply g.S.Source.left g.S.Source.faults g.K.Sink.taken g.K.Sink.faults (Some command) _ _ _ _ _ c.in-Err.error (alone_reads command c.requires.alone)
    (λ by. absurd (alone_not_by_workers command c.requires.alone by)) refl (λ e. reply.failed (ap Err e)) reply.entries reply.not_run reply.legal
    (λ class limits is. let same : command ≡ cmd.Replay class limits = cc in reply.not_replayed class limits same))
