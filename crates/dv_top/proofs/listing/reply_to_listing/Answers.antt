use Rattle.std.proofs.Common.{ap, ◌∙◌, flat_map}
use Rattle.std.proofs.lemmas.Bool.{MatchBool-at_true, MatchBool-at_false}
use Rattle.std.proofs.lemmas.Result.{IfOk-weaker}
use Rattle.dv_print.specs.Listing.{class_text}
use Rattle.dv_top.specs.Status.{code_of}
use Rattle.dv_top.proofs.ListingLemmas.{said_too_large_to_list, said_bad, said_listed}
use Rattle.dv_top.proofs.listing.reply_to_listing.Goals as goal

pub returns-then-is_too_large-clause-said : goal.returns-then-is_too_large-clause-said
returns-then-is_too_large-clause-said c bytes read =
    IfOk-weaker c.fixed.result _ _ (λ reply h. said_too_large_to_list bytes c.args.text.now _ _ read (MatchBool-at_true _ _ c.if-is_too_large.true c.is_too_large.ensures) (ap code_of h.0) h.1) c.fixed.ensures

pub returns-in-Ok-clause-said : goal.returns-in-Ok-clause-said
returns-in-Ok-clause-said c bytes read =
    IfOk-weaker c.listing_of.result _ _ (λ reply h. said_listed bytes c.args.text.now c.in-Ok.read _ _ read (MatchBool-at_false _ _ c.if-is_too_large.false c.is_too_large.ensures) c.in-Ok.ensures (ap code_of h.0) (h.1 ∙ ap (λ cs. flat_map class_text cs) c.items.ensures)) c.listing_of.ensures

pub returns-in-Err-At-clause-said : goal.returns-in-Err-At-clause-said
returns-in-Err-At-clause-said c bytes read =
    IfOk-weaker c.refused.result _ _ (λ reply h. said_bad bytes c.args.text.now (record { line = c.in-Err-At.line; kind = c.in-Err-At.kind }) _ _ read (MatchBool-at_false _ _ c.if-is_too_large.false c.is_too_large.ensures) (rw c.in-Err-At.field-0-is at c.in-Err-At.ensures) (ap code_of h.0) h.1) c.refused.ensures
