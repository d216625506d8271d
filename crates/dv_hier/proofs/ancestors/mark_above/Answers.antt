use Rattle.std.proofs.Common.{◌-◌, ◌+◌, List, Some, length, set, true, subst, ◌∙◌, arith}
use Rattle.std.proofs.lemmas.List.{length-set}
use Rattle.dv_defs.specs.declared.names.ClassId.{ClassId}
use Rattle.dv_defs.specs.declared.image.ClassInfo.{ClassInfo}
use Rattle.dv_defs.specs.Order.{numbers}
use Rattle.dv_hier.specs.Ancestors.{HasMarked, with_interfaces}
use Rattle.dv_hier.specs.Slots.{walked}
use Rattle.dv_hier.proofs.AncestorLaws.{IsWalk, walk_begins, walk_in, own_in, walk_more, walk_ends, walk_done}
use Rattle.dv_hier.proofs.ancestors.mark_above.Goals as goal

pub loop-init : goal.loop-init
loop-init c =
    walk_begins c.args.infos.now c.args.interfaces.now c.args.row.now (length c.args.infos.now - 0) c.args.class c.requires.row c.requires.class_in (omega arith)

pub returns-in_default : goal.returns-in_default
returns-in_default c = walk_ends c.args.infos.now c.args.interfaces.now _ c.args.row.now c.loop.row _ c.loop.at c.in_default.is c.loop.invariant

pub bounds-row-place : goal.bounds-row-place
bounds-row-place c =
    let inside = walk_in c.args.infos.now c.args.interfaces.now _ c.args.row.now c.loop.row _ c.loop.at c.in-Some.id c.in-Some.is c.loop.invariant in
    omega (arith, inside, c.loop.invariant.many)

pub bounds-interfaces-place : goal.bounds-interfaces-place
bounds-interfaces-place c =
    let inside = walk_in c.args.infos.now c.args.interfaces.now _ c.args.row.now c.loop.row _ c.loop.at c.in-Some.id c.in-Some.is c.loop.invariant in
    omega (arith, inside, c.requires.many)

pub mark_all-requires : goal.mark_all-requires
mark_all-requires c =
    let id = c.in-Some.id in
    let inside = walk_in c.args.infos.now c.args.interfaces.now _ c.args.row.now c.loop.row _ c.loop.at id c.in-Some.is c.loop.invariant in
    own_in c.args.interfaces.now (length c.args.infos.now) (length (set c.loop.row id.0 true)) id.0 c.index-interfaces-place.result c.items.result.now c.requires.interfaces
    (omega (arith, inside, c.requires.many)) c.index-interfaces-place.is c.items.ensures (length-set c.loop.row id.0 true ∙ c.loop.invariant.many)

pub bounds-infos-place : goal.bounds-infos-place
bounds-infos-place c = walk_in c.args.infos.now c.args.interfaces.now _ c.args.row.now c.loop.row _ c.loop.at c.in-Some.id c.in-Some.is c.loop.invariant

pub bounds-infos-place-in-Some : goal.bounds-infos-place-in-Some
bounds-infos-place-in-Some c = walk_in c.args.infos.now c.args.interfaces.now _ c.args.row.now c.loop.row _ c.loop.at c.in-Some.id c.in-Some.is c.loop.invariant

pub loop-preserved : goal.loop-preserved
loop-preserved c =
    let infos = c.args.infos.now in
    let id = c.in-Some.id in
    let whole = with_interfaces c.args.interfaces.now (walked infos (length infos) (Some c.args.class.0)) in
    subst (λ (info : ClassInfo). IsWalk infos c.args.interfaces.now whole c.args.row.now c.mark_all.new.row (length infos - (c.loop.counter + 1)) info.parent) c.index-infos-place.is
    (walk_more infos c.args.interfaces.now whole c.args.row.now c.loop.row c.mark_all.new.row
    (length infos - c.loop.counter) (length infos - (c.loop.counter + 1)) c.loop.at id c.index-infos-place.result c.index-interfaces-place.result
    c.requires.range c.requires.many (omega (arith, c.loop-test.true)) c.in-Some.is c.index-infos-place.is c.index-interfaces-place.is c.loop.invariant
    (subst (λ (ids : List ClassId). HasMarked (numbers ids) (set c.loop.row id.0 true) c.mark_all.new.row) c.items.ensures c.mark_all.ensures))

pub returns : goal.returns
returns c = walk_done c.args.infos.now c.args.interfaces.now _ c.args.row.now c.loop.row _ c.loop.at (omega (arith, c.loop-test.false)) c.loop.invariant
