use Rattle.std.proofs.Common.{ap}
use Rattle.std.proofs.lemmas.Bool.{MatchBool-at_true, MatchBool-at_false}
use Rattle.std.proofs.lemmas.Result.{IfOk-weaker}
use Rattle.dv_top.specs.Status.{code_of}
use Rattle.dv_top.proofs.VerifyingLemmas.{said_too_large_to_verify, said_no_image, image_of_read}
use Rattle.dv_top.proofs.verdict.reply_to_verifying.Goals as goal

pub returns-then-is_too_large-clause-said : goal.returns-then-is_too_large-clause-said
returns-then-is_too_large-clause-said g c bytes read =
    IfOk-weaker c.fixed.result _ _ (λ reply h. said_too_large_to_verify bytes c.args.text.now _ _ read (MatchBool-at_true _ _ c.if-is_too_large.true c.is_too_large.ensures) (ap code_of h.0) h.1) c.fixed.ensures

pub returns-in-Ok-clause-said : goal.returns-in-Ok-clause-said
returns-in-Ok-clause-said g c bytes read =
    let whole = image_of_read bytes c.args.text.now c.in-Ok.image read (MatchBool-at_false _ _ c.if-is_too_large.false c.is_too_large.ensures) c.in-Ok.ensures in
    c.verdict.ensures.said bytes whole.0 whole.1

pub returns-in-Err-clause-said : goal.returns-in-Err-clause-said
returns-in-Err-clause-said g c bytes read =
    IfOk-weaker c.no_program.result _ _ (λ reply told. said_no_image bytes c.args.text.now c.in-Err.error reply.status reply.text.items read (MatchBool-at_false _ _ c.if-is_too_large.false c.is_too_large.ensures) c.in-Err.ensures told) c.no_program.ensures
