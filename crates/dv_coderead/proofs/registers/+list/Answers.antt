use Rattle.std.proofs.lemmas.Result.{err_from_is_err_and}
use Rattle.dv_coderead.specs.Pieces.{pieces_in}
use Rattle.dv_coderead.proofs.Lists.{no_room, no_register, no_more, at_end, goes_on}
use Rattle.dv_coderead.proofs.registers.+list.Goals as goal

pub returns-then-room-eq0-clause-exact : goal.returns-then-room-eq0-clause-exact
returns-then-room-eq0-clause-exact n c = rw c.if-room-eq0.true (no_room c.args.frame (pieces_in c.args.pieces.now) c.args.registers.items)

pub returns-in_err-one-clause-exact : goal.returns-in_err-one-clause-exact
returns-in_err-one-clause-exact n c =
    let p = err_from_is_err_and c.from_residual.result c.from_residual.ensures.1 in
    let ps = pieces_in c.args.pieces.now in
    rw (p.1, p.2) (no_register c.args.frame ps c.args.room c.args.registers.items c.in_err-one.field-0.0 c.if-room-eq0.false c.in_err-one.ensures)

pub returns-in_err-goes_on-clause-exact : goal.returns-in_err-goes_on-clause-exact
returns-in_err-goes_on-clause-exact n c =
    let p = err_from_is_err_and c.from_residual-in_err-goes_on.result c.from_residual-in_err-goes_on.ensures.1 in
    let ps = pieces_in c.args.pieces.now in
    rw (p.1, p.2) (no_more c.args.frame ps c.args.room c.in_ok-one.one (pieces_in c.in_ok-one.rest.now) c.args.registers.items c.in_err-goes_on.field-0.0 c.if-room-eq0.false c.in_ok-one.ensures c.in_err-goes_on.ensures)

pub returns-then-goes_on-clause-exact : goal.returns-then-goes_on-clause-exact
returns-then-goes_on-clause-exact n c =
    let ps = pieces_in c.args.pieces.now in
    let whole = goes_on c.args.frame ps c.args.room c.in_ok-one.one (pieces_in c.in_ok-one.rest.now) (pieces_in c.in_ok-goes_on.rest.now) c.args.registers.items c.if-room-eq0.false c.in_ok-one.ensures (rw c.if-goes_on.true at c.in_ok-goes_on.ensures) in
    let rest = rw c.in_ok-push.ensures.items at c.list.ensures.exact in
    rw whole rest

pub returns-else-goes_on-clause-exact : goal.returns-else-goes_on-clause-exact
returns-else-goes_on-clause-exact n c =
    let ps = pieces_in c.args.pieces.now in
    rw c.in_ok-push.ensures.items (at_end c.args.frame ps c.args.room c.in_ok-one.one (pieces_in c.in_ok-one.rest.now) (pieces_in c.in_ok-goes_on.rest.now) c.args.registers.items c.if-room-eq0.false c.in_ok-one.ensures (rw c.if-goes_on.false at c.in_ok-goes_on.ensures))
