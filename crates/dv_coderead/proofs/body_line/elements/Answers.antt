use mir.Val.{SFits}
use Rattle.std.proofs.Common.{◌+◌, ◌∷◌, [], ◌++◌, sym, ap, subst, ◌∙◌, rules, w64}
use Rattle.std.proofs.lemmas.Int.{to_z-of_z}
use Rattle.std.proofs.lemmas.Result.{err_from_is_err_and}
use Rattle.dv_coderead.proofs.Elements.{at_end, at_start, one_more, refused, IsSoFar}
use Rattle.dv_coderead.proofs.body_line.elements.Goals as goal

pub loop-piece-init : goal.loop-piece-init
loop-piece-init c = subst (IsSoFar c.args.width c.args.pieces.now 0) (sym c.new-elements.ensures.items) (at_start c.args.width c.args.pieces.now)

pub returns-in_err-element : goal.returns-in_err-element
returns-in_err-element c =
    let l = c.loop-piece in
    let p = err_from_is_err_and c.from_residual.result c.from_residual.ensures.1 in
    rw (p.1, p.2)
    (refused c.args.width c.args.pieces.now l.piece-index l.elements.items l.invariant c.piece-item.result c.loop-piece-test.true c.piece-item.is c.in_err-element.field-0.0 (sym c.in_err-element.ensures))

pub loop-piece-preserved : goal.loop-piece-preserved
loop-piece-preserved c =
    let l = c.loop-piece in
    let z = c.in_ok-element.field-0 in
    let fits : SFits w64 z = search rules in
    let more = one_more c.args.width c.args.pieces.now l.piece-index l.elements.items l.invariant c.piece-item.result c.loop-piece-test.true c.piece-item.is z (sym c.in_ok-element.ensures) in
    subst (IsSoFar c.args.width c.args.pieces.now (l.piece-index + 1)) (sym (c.in_ok-push.ensures.items ∙ ap (λ x. l.elements.items ++ x ∷ []) (to_z-of_z w64 z fits))) more

pub returns : goal.returns
returns c = at_end c.args.width c.args.pieces.now c.loop-piece.piece-index c.loop-piece.elements.items c.loop-piece.invariant c.loop-piece-test.false
