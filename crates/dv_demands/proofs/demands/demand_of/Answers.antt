use Rattle.std.proofs.Common.{◌≡◌, ap, subst}
use Rattle.std.specs.Prelude.{option_map}
use Rattle.dv_ops.specs.declared.op.Op.{Op}
use Rattle.dv_ops.specs.Meaning.{code_of, meant, method_of}
use Rattle.dv_demands.specs.Made.{made_for}
use Rattle.dv_demands.proofs.FillTargets.{data_there, is_fill, width_of}
use Rattle.dv_demands.proofs.demands.demand_of.Goals as goal

pub invoke-requires : goal.invoke-requires
invoke-requires c =
    let P : Op → Type 0 = λ o. option_map (λ k. k.0) c.args.made ≡ made_for c.args.image.now (method_of c.args.code.now.method) (meant (code_of c.args.code.now) 0 o) c.args.state.now.regs in
    subst P c.in-Invoke.is (c.requires.made 0)

pub width_at-requires : goal.width_at-requires
width_at-requires c =
    let code = code_of c.args.code.now in
    let at = c.requires.fetched.at in
    data_there c.args.image.now code at (record { op = meant code at c.args.op.now; next = c.requires.fetched.next }) c.in-Fill.to c.requires.clean c.requires.fetched.fetched
    (ap (λ o. is_fill (meant code at o)) c.in-Fill.is)
    (ap (λ o. width_of (meant code at o)) c.in-Fill.is)
