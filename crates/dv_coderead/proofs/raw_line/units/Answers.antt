use Rattle.std.proofs.Common.{◌+◌, ◌∷◌, [], ◌++◌, sym, ap, subst, ◌∙◌}
use Rattle.dv_coderead.proofs.RawUnits.{at_end, at_start, no_unit, no_word, one_more, IsSoFar}
use Rattle.dv_coderead.proofs.raw_line.units.Goals.{in_default-via-in-Word+else-is_unit, in_default-via-in_default}
use Rattle.dv_coderead.proofs.raw_line.units.Goals as goal

pub loop-piece-init : goal.loop-piece-init
loop-piece-init c = subst (IsSoFar c.args.pieces.now 0) (sym c.new-units.ensures.items) (at_start c.args.pieces.now)

pub returns-in_default : goal.returns-in_default
returns-in_default c =
    let ps = c.args.pieces.now in
    let at = c.loop-piece.piece-index in
    let us = c.loop-piece.units.items in
    elim c.in_default.branch [
      | in_default-via-in-Word+else-is_unit w ↦
          no_unit ps at us c.piece-item.result c.loop-piece-test.true c.piece-item.is c.loop-piece.invariant w.in-Word.word w.in-Word.is (sym w.is_unit.ensures ∙ w.if-is_unit.false)
      | in_default-via-in_default w ↦
          no_word ps at us c.piece-item.result c.loop-piece-test.true c.piece-item.is c.loop-piece.invariant w.in_default.not-Word
    ]

pub loop-piece-preserved : goal.loop-piece-preserved
loop-piece-preserved c =
    let ps = c.args.pieces.now in
    let at = c.loop-piece.piece-index in
    let us = c.loop-piece.units.items in
    let w = c.in-Word.word in
    let more = one_more ps at us c.piece-item.result c.loop-piece-test.true c.piece-item.is c.loop-piece.invariant w c.in-Word.is (sym c.is_unit.ensures ∙ c.if-is_unit.true) in
    subst (IsSoFar ps (at + 1)) (sym (c.in_ok-push-in-Word.ensures.items ∙ ap (λ u. us ++ u ∷ []) c.unit.ensures)) more

pub returns : goal.returns
returns c = at_end c.args.pieces.now c.loop-piece.piece-index c.loop-piece.units.items c.loop-piece-test.false c.loop-piece.invariant
