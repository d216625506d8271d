use Rattle.std.proofs.Common.{Some, sym, ◌∙◌, arith}
use Rattle.std.proofs.lemmas.List.{length-set}
use Rattle.dv_clinit.specs.Births.{BeginsAsParent}
use Rattle.dv_clinit.proofs.BirthLaws.{climb_alike, climb_before, climb_inside, known_more}
use Rattle.dv_clinit.proofs.Noting.{none_by_test}
use Rattle.dv_clinit.proofs.Writing.{way_on, way_top}
use Rattle.dv_clinit.proofs.births.write_up.Goals as goal

pub loop-state-smaller : goal.loop-state-smaller
loop-state-smaller c =
    climb_before c.args.image.now c.loop-state.known c.loop-state.invariant.known c.loop-state.at c.in-Some.above (sym c.in-Some.ensures)

pub loop-state-preserved : goal.loop-state-preserved
loop-state-preserved c =
    let known = c.loop-state.invariant.known in
    let parent = sym c.in-Some.ensures in
    let inside = climb_inside c.args.image.now c.loop-state.known known c.loop-state.at c.in-Some.above parent in
    let unknown = none_by_test _ c.loop-state-test.ensures in
    record {
      within = omega (arith, inside, length-set c.loop-state.known c.loop-state.at (Some c.args.state));
      known = known_more c.args.image.now (BeginsAsParent c.args.image.now) c.loop-state.known known c.loop-state.at c.args.state c.loop-state.invariant.same;
      way = way_on c.args.image.now c.args.known.now c.loop-state.known c.args.class c.loop-state.at c.in-Some.above c.args.state c.loop-state.invariant.within parent c.loop-state.invariant.way;
      same = c.loop-state.invariant.same ∙ climb_alike c.args.image.now c.loop-state.known known c.loop-state.at c.in-Some.above c.loop-state.invariant.within unknown parent;
    }

pub returns-in-None-clause-known : goal.returns-in-None-clause-known
returns-in-None-clause-known c =
    known_more c.args.image.now (BeginsAsParent c.args.image.now) c.loop-state.known c.loop-state.invariant.known c.loop-state.at c.args.state c.loop-state.invariant.same

pub returns-in-None-clause-written : goal.returns-in-None-clause-written
returns-in-None-clause-written c =
    way_top c.args.image.now c.args.known.now c.loop-state.known c.args.class c.loop-state.at c.args.state c.loop-state.invariant.within (sym c.in-None.ensures) c.loop-state.invariant.way
