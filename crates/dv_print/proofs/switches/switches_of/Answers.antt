use Rattle.std.proofs.Common.{ap, sym, ◌∙◌, arith}
use Rattle.std.specs.Option.{option_or}
use Rattle.dv_asm.specs.First.{when}
use Rattle.dv_print.specs.Named.{switches_to}
use Rattle.dv_print.proofs.Steps.LookUps.{switch_more}
use Rattle.dv_print.proofs.switches.switches_of.Goals as goal

pub loop-piece-preserved : goal.loop-piece-preserved
loop-piece-preserved c address =
    let k = c.loop-piece.piece-index in
    let p = c.piece-item.result in
    let more = switch_more c.args.pieces.now k p address (omega arith) c.piece-item.is in
    c.in_ok-add_switch.ensures address ∙ (ap (λ o. option_or o (when (switches_to address p) p.at)) (c.loop-piece.invariant address) ∙ sym more)
