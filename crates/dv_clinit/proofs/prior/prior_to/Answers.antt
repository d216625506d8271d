use Rattle.std.proofs.Common.{length, subst, sym, ap, ◌∙◌, arith}
use Rattle.dv_defs.specs.Images.{Image}
use Rattle.dv_defs.specs.Linked.{IsImage}
use Rattle.dv_defs.specs.Order.{numbers}
use Rattle.dv_clinit.proofs.PriorLaws.{prior_beyond, prior_told}
use Rattle.dv_clinit.proofs.prior.prior_to.Goals as goal

pub returns-in-Some : goal.returns-in-Some
returns-in-Some c =
    let own = c.items.ensures ∙ ap (λ (i : Image). i.classes) c.image.view_is in
    let read = c.in-Some.ensures.lookup in
    ap numbers c.items-in-Some.ensures ∙ prior_told c.args.image.now (subst IsImage c.image.view_is c.image.invariant.0) c.items.result.now own c.args.class c.in-Some.info.now read.3.0 read.1

pub returns-in-None : goal.returns-in-None
returns-in-None c =
    let own = c.items.ensures ∙ ap (λ (i : Image). i.classes) c.image.view_is in
    sym (prior_beyond c.args.image.now c.args.class (omega (arith, ap length own, c.in-None.ensures.lookup.3)))
