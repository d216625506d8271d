use Rattle.std.proofs.Common.{◌≡◌, ap, subst, ◌∙◌}
use Rattle.std.specs.Prelude.{IfOk}
use Rattle.dv_defs.specs.Body.{BodyValue}
use Rattle.dv_print.specs.Named.{label_addresses}
use Rattle.dv_print.specs.Drafting.{items_in}
use Rattle.dv_print.proofs.Steps.LookUps.{items_same}
use Rattle.dv_print.proofs.drafting.items_with.Goals as goal

pub returns : goal.returns
returns c =
    let b = c.args.body.now in
    let pieces = c.args.pieces.now in
    let tries : c.items-tries.result.now ≡ b.tries = cc (c.items-tries.ensures, ap (λ (x : BodyValue). x.tries) c.body.view_is) in
    subst (λ is. IfOk c.items_in.result (λ v. v.items ≡ is))
    (items_same b pieces c.in_ok-named.named (label_addresses pieces c.items-tries.result.now) c.in_ok-named.ensures ∙
    ap (λ ts. items_in b pieces (label_addresses pieces ts)) tries)
    c.items_in.ensures
