use Rattle.std.proofs.Common.{◌∷◌, [], take, false, get_or}
use Rattle.std.proofs.lemmas.List.{get_or_default}
use Rattle.dv_defs.specs.declared.names.MethodId.{MethodId}
use Rattle.dv_vtable.specs.Choosing.{above_any, methods_at}
use Rattle.dv_vtable.proofs.ChoosingLaws.{all_above, marked_twice, more_above}
use Rattle.dv_vtable.proofs.choosing.mark_offer.Goals as goal

pub loop-method-preserved : goal.loop-method-preserved
loop-method-preserved c = λ image of d.
    let none : MethodId = record { 0 = 0 } in
    let first = c.args.offer.first in
    let ids = c.args.offer.others.now in
    let i = c.loop-method.method-index in
    let id : MethodId = get_or ids i none in
    marked_twice (get_or c.mark_above-in-loop-method.new.marks d false) (get_or c.loop-method.marks d false) (get_or c.args.marks.now d false) c.args.mark
    (above_any image (methods_at image (first ∷ take i ids)) d) (above_any image (methods_at image (id ∷ [])) d) _
    (c.mark_above-in-loop-method.ensures image of d) (c.loop-method.invariant image of d)
    (more_above image first ids i id d c.loop-method-test.true (get_or_default ids i none id c.loop-method-test.true))

pub returns : goal.returns
returns c = λ image of d.
    all_above image c.args.offer.first c.args.offer.others.now c.loop-method.method-index d (get_or c.loop-method.marks d false) (get_or c.args.marks.now d false) c.args.mark
    c.loop-method-test.false (c.loop-method.invariant image of d)
