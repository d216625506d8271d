use Rattle.std.proofs.Common.{Some}
use Rattle.std.proofs.lemmas.Result.{IfOk-weaker}
use Rattle.dv_top.specs.Preparing.{IsFound}
use Rattle.dv_top.specs.Programs.{program_to_run}
use Rattle.dv_top.specs.Said.{NotRun}
use Rattle.dv_top.specs.Status.{code_of}
use Rattle.dv_top.proofs.Entries.{entries_if_some, turns_are_entries}
use Rattle.dv_top.proofs.RunLemmas.{idle_of_run, run_status, told_of_run}
use Rattle.dv_top.proofs.RunningLemmas.{log_of_run, main_found, main_there, said_ran}
use Rattle.dv_top.proofs.running.reply_to_running.Goals as goal

pub returns-in-Ok-Accepted-clause-told : goal.returns-in-Ok-Accepted-clause-told
returns-in-Ok-Accepted-clause-told g c =
    let h = rw c.in-Ok-Accepted.field-0-is at c.in-Ok-Accepted.ensures.ready in
    IfOk-weaker c.reply_of_run-reply.result _ _ (λ reply ran. told_of_run _ (run_status _ _ _ _ _ _ _ ran.1)) (c.reply_of_run-reply.ensures.ran h.method (main_there c.in-Ok-Accepted.verified.image c.in-Ok-Accepted.main.0 h))

pub returns-in-Ok-Accepted-clause-idle : goal.returns-in-Ok-Accepted-clause-idle
returns-in-Ok-Accepted-clause-idle g c =
    let h = rw c.in-Ok-Accepted.field-0-is at c.in-Ok-Accepted.ensures.ready in
    IfOk-weaker c.reply_of_run-reply.result _ _ (λ reply ran. idle_of_run _ _ (run_status _ _ _ _ _ _ _ ran.1)) (c.reply_of_run-reply.ensures.ran h.method (main_there c.in-Ok-Accepted.verified.image c.in-Ok-Accepted.main.0 h))

pub returns-in-Ok-Accepted-clause-entries : goal.returns-in-Ok-Accepted-clause-entries
returns-in-Ok-Accepted-clause-entries g c =
    let h = rw c.in-Ok-Accepted.field-0-is at c.in-Ok-Accepted.ensures.ready in
    entries_if_some c.reply_of_run-reply.new.log.items (λ some. turns_are_entries (Some c.args.how.now.seed) c.in-Ok-Accepted.verified.image h.method c.args.how.now.limits c.reply_of_run-reply.new.log.items (c.reply_of_run-reply.ensures.legal h.method (main_there c.in-Ok-Accepted.verified.image c.in-Ok-Accepted.main.0 h) some).1)

pub returns-in-Ok-Accepted-clause-said : goal.returns-in-Ok-Accepted-clause-said
returns-in-Ok-Accepted-clause-said g c bytes read =
    let found = program_to_run c.args.class.now bytes in
    let f : IsFound bytes found c.in-Ok-Accepted.verified.image c.in-Ok-Accepted.main = (rw c.in-Ok-Accepted.field-0-is at c.in-Ok-Accepted.ensures.prepared) bytes read in
    IfOk-weaker c.reply_of_run-reply.result _ _ (λ reply ran. said_ran bytes found c.in-Ok-Accepted.verified.image c.in-Ok-Accepted.main f (Some c.args.how.now.seed) c.args.how.now.limits c.reply_of_run-reply.new.log.items c.args.how.now.behind (code_of reply.status) reply.text.items ran) (c.reply_of_run-reply.ensures.ran f.main (main_found bytes found c.in-Ok-Accepted.verified.image c.in-Ok-Accepted.main f))

pub returns-in-Ok-Accepted-clause-legal : goal.returns-in-Ok-Accepted-clause-legal
returns-in-Ok-Accepted-clause-legal g c bytes read some =
    let found = program_to_run c.args.class.now bytes in
    let f : IsFound bytes found c.in-Ok-Accepted.verified.image c.in-Ok-Accepted.main = (rw c.in-Ok-Accepted.field-0-is at c.in-Ok-Accepted.ensures.prepared) bytes read in
    log_of_run bytes found c.in-Ok-Accepted.verified.image c.in-Ok-Accepted.main f (Some c.args.how.now.seed) c.args.how.now.limits c.reply_of_run-reply.new.log.items (c.reply_of_run-reply.ensures.legal f.main (main_found bytes found c.in-Ok-Accepted.verified.image c.in-Ok-Accepted.main f) some)

pub returns-in-Ok-Told-clause-said : goal.returns-in-Ok-Told-clause-said
returns-in-Ok-Told-clause-said g c bytes read = NotRun ((rw c.in-Ok-Told.field-0-is at c.in-Ok-Told.ensures.prepared) bytes read)
