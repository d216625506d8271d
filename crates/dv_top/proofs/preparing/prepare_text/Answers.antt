use Rattle.std.proofs.lemmas.Bool.{MatchBool-at_false, MatchBool-at_true}
use Rattle.dv_top.specs.Programs.{program_to_run}
use Rattle.dv_top.proofs.AnsweringLemmas.{found_in}
use Rattle.dv_top.proofs.RunningLemmas.{said_large, said_none}
use Rattle.dv_top.proofs.preparing.prepare_text.Goals as goal

pub returns-then-is_too_large-clause-prepared : goal.returns-then-is_too_large-clause-prepared
returns-then-is_too_large-clause-prepared g c bytes read =
    said_large bytes c.args.text.now _ c.in_ok-reply.reply.status c.in_ok-reply.reply.text.items read (MatchBool-at_true _ _ c.if-is_too_large.true c.is_too_large.ensures) c.in_ok-reply.ensures

pub returns-in-Ok-clause-prepared : goal.returns-in-Ok-clause-prepared
returns-in-Ok-clause-prepared g c bytes read =
    let found = found_in (program_to_run c.args.class.now) bytes c.args.text.now _ read (MatchBool-at_false _ _ c.if-is_too_large.false c.is_too_large.ensures) c.in-Ok.ensures.program in
    c.prepare_program.ensures.prepared bytes (program_to_run c.args.class.now bytes) found.0 found.1

pub returns-in_ok-no_program-in-Err-clause-prepared : goal.returns-in_ok-no_program-in-Err-clause-prepared
returns-in_ok-no_program-in-Err-clause-prepared g c bytes read =
    said_none bytes c.args.text.now (program_to_run c.args.class.now) c.in-Err.error _ _ read (MatchBool-at_false _ _ c.if-is_too_large.false c.is_too_large.ensures) c.in-Err.ensures.program c.in_ok-no_program-in-Err.ensures
