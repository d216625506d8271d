use Rattle.std.proofs.Common.{List, ◌≡◌, ◌<◌, ◌∷◌, suc, drop, get_or, length, sym, ◌∙◌, ap, add-one, arith, drop-cons}
use Rattle.dv_defs.specs.declared.names.Ty.{Ty}
use Rattle.dv_defs.specs.Op.{named_registers}
use Rattle.dv_demands.proofs.ArgumentLists.{next_arg}
use Rattle.dv_demands.proofs.arguments.args.Goals as goal

pub loop-ty-preserved : goal.loop-ty-preserved
loop-ty-preserved c =
    let below : c.loop-ty.ty-index < length c.args.params.now = omega (arith, ap length c.items-ty-items.ensures) in
    let here : drop c.loop-ty.ty-index c.args.params.now ≡ c.ty-item.result ∷ drop (suc c.loop-ty.ty-index) c.args.params.now =
    drop-cons c.args.params.now c.loop-ty.ty-index c.ty-item.result below ∙
    ap (λ (x : Ty). x ∷ drop (suc c.loop-ty.ty-index) c.args.params.now) (sym (c.ty-item.is ∙ ap (λ (xs : List Ty). get_or xs c.loop-ty.ty-index c.ty-item.result) c.items-ty-items.ensures)) in
    rw (add-one, c.words-place.ensures)
    (c.loop-ty.invariant ∙
    next_arg c.args.image.now c.args.regs.now c.ty-item.result c.args.params.now (named_registers c.args.named.now) c.loop-ty.ty-index c.loop-ty.place here (sym c.in_default.ensures.arg))
