use Rattle.std.proofs.Common.{arith}
use Rattle.std.proofs.lemmas.Grind.{common_steps}
use Rattle.std.proofs.lemmas.Bool.{MatchBool-at_false, MatchBool-at_true}
use Rattle.std.proofs.lemmas.Result.{IfOk-weaker}
use Rattle.dv_top.specs.Programs.{program_to_replay}
use Rattle.dv_top.specs.Said.{NotReplayed}
use Rattle.dv_top.proofs.AnsweringLemmas.{found_in}
use Rattle.dv_top.proofs.RunningLemmas.{said_large, said_none}
use Rattle.dv_top.proofs.replaying.reply_to_replaying.Goals as goal

pub returns-then-is_too_large-clause-said : goal.returns-then-is_too_large-clause-said
returns-then-is_too_large-clause-said g c bytes read =
    IfOk-weaker c.fixed.result _ _ (λ reply told. NotReplayed (said_large bytes c.args.text.now _ reply.status reply.text.items read (MatchBool-at_true _ _ c.if-is_too_large.true c.is_too_large.ensures) told)) c.fixed.ensures

pub returns-then-is_too_large-clause-legal : goal.returns-then-is_too_large-clause-legal
returns-then-is_too_large-clause-legal g c bytes read some = absurd (some c.requires.empty)

pub returns-in-Ok-clause-said : goal.returns-in-Ok-clause-said
returns-in-Ok-clause-said g c bytes read =
    let found = found_in (program_to_replay c.args.class.now) bytes c.args.text.now _ read (MatchBool-at_false _ _ c.if-is_too_large.false c.is_too_large.ensures) c.in-Ok.ensures.program in
    c.reply_of_program_replayed.ensures.said bytes (program_to_replay c.args.class.now bytes) found.0 found.1

pub returns-in-Ok-clause-legal : goal.returns-in-Ok-clause-legal
returns-in-Ok-clause-legal g c bytes read some =
    let found = found_in (program_to_replay c.args.class.now) bytes c.args.text.now _ read (MatchBool-at_false _ _ c.if-is_too_large.false c.is_too_large.ensures) c.in-Ok.ensures.program in
    c.reply_of_program_replayed.ensures.legal bytes (program_to_replay c.args.class.now bytes) found.0 found.1 some

pub returns-in-Err-clause-said : goal.returns-in-Err-clause-said
returns-in-Err-clause-said g c bytes read =
    IfOk-weaker c.no_program.result _ _ (λ reply told. NotReplayed (said_none bytes c.args.text.now (program_to_replay c.args.class.now) c.in-Err.error reply.status reply.text.items read (MatchBool-at_false _ _ c.if-is_too_large.false c.is_too_large.ensures) c.in-Err.ensures.program told)) c.no_program.ensures

pub returns-in-Err-clause-legal : goal.returns-in-Err-clause-legal
returns-in-Err-clause-legal g c = grind (arith, common_steps)
