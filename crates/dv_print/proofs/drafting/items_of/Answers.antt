use Rattle.std.proofs.Common.{◌≡◌, ap, subst, ◌∙◌}
use Rattle.std.specs.Prelude.{IfOk}
use Rattle.dv_defs.specs.Body.{BodyValue}
use Rattle.dv_print.specs.Pieces.{pieces_of}
use Rattle.dv_print.specs.Named.{label_addresses}
use Rattle.dv_print.specs.Drafting.{items_in}
use Rattle.dv_print.proofs.drafting.items_of.Goals as goal

pub returns : goal.returns
returns c =
    let b = c.args.body.now in
    let units : c.items-units.result.now ≡ b.units = cc (c.items-units.ensures, ap (λ (x : BodyValue). x.units) c.body.view_is) in
    subst (λ is. IfOk c.items_with.result (λ v. v.items ≡ is))
    (ap (λ ps. items_in b ps (label_addresses ps b.tries)) c.in_ok-pieces.ensures ∙
    ap (λ us. items_in b (pieces_of us) (label_addresses (pieces_of us) b.tries)) units)
    c.items_with.ensures
