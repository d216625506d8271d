use Rattle.std.proofs.Common.{Some, ap, arith}
use Rattle.std.proofs.lemmas.Grind.{common_steps}
use Rattle.std.proofs.lemmas.Result.{IfOk-weaker}
use Rattle.dv_top.specs.Answering.{AsGiven, ByTurns}
use Rattle.dv_top.specs.Said.{ToBeListed, ToBeReplayed, ToBeRun, ToBeVerified}
use Rattle.dv_top.proofs.AnswerLemmas.{asks_run}
use Rattle.dv_top.proofs.answering.reply_to_command.Goals as goal

pub returns-in-Some-clause-said : goal.returns-in-Some-clause-said
returns-in-Some-clause-said g c bytes read =
    let is = rw c.in-Some.is at c.in-Run.is in
    IfOk-weaker c.reply_to_running.result _ _ (λ reply said. ToBeRun _ (asks_run _ _ _ _ _ _ _ (ap Some is) c.of.ensures) said) (c.reply_to_running.ensures.said bytes read)

pub returns-in-Some-clause-legal : goal.returns-in-Some-clause-legal
returns-in-Some-clause-legal g c bytes read some =
    let is = rw c.in-Some.is at c.in-Run.is in
    ByTurns _ (asks_run _ _ _ _ _ _ _ (ap Some is) c.of.ensures) (c.reply_to_running.ensures.legal bytes read some)

pub returns-in-Replay-clause-said : goal.returns-in-Replay-clause-said
returns-in-Replay-clause-said g c bytes read =
    IfOk-weaker c.reply_to_replaying.result _ _ (λ reply said. ToBeReplayed c.in-Replay.name _ (ap Some c.in-Replay.is) said) (c.reply_to_replaying.ensures.said bytes read)

pub returns-in-Replay-clause-legal : goal.returns-in-Replay-clause-legal
returns-in-Replay-clause-legal g c bytes read some = AsGiven c.in-Replay.name _ (ap Some c.in-Replay.is) (c.reply_to_replaying.ensures.legal bytes read some)

pub returns-in-List-clause-said : goal.returns-in-List-clause-said
returns-in-List-clause-said g c bytes read =
    IfOk-weaker c.reply_to_listing.result _ _ (λ reply said. ToBeListed (ap Some c.in-List.is) said) (c.reply_to_listing.ensures.said bytes read)

pub returns-in-Verify-clause-said : goal.returns-in-Verify-clause-said
returns-in-Verify-clause-said g c bytes read =
    IfOk-weaker c.reply_to_verifying.result _ _ (λ reply said. ToBeVerified (ap Some c.in-Verify.is) said) (c.reply_to_verifying.ensures.said bytes read)

pub returns-in-Verify-clause-not_replayed : goal.returns-in-Verify-clause-not_replayed
returns-in-Verify-clause-not_replayed g c = grind (arith, common_steps)

pub returns-in-List-clause-not_replayed : goal.returns-in-List-clause-not_replayed
returns-in-List-clause-not_replayed g c = grind (arith, common_steps)
