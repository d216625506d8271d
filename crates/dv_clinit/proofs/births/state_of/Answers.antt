use Rattle.std.proofs.Common.{sym, ◌∙◌}
use Rattle.dv_clinit.proofs.BirthLaws.{climb_alike, climb_before, climb_inside, climb_top}
use Rattle.dv_clinit.proofs.births.state_of.Goals as goal

pub loop-at-smaller : goal.loop-at-smaller
loop-at-smaller c =
    climb_before c.args.image.now c.args.known.now c.requires.known c.loop-at.at c.in-Some-parent_of.above (sym c.in-Some-parent_of.ensures)

pub loop-at-preserved : goal.loop-at-preserved
loop-at-preserved c =
    let parent = sym c.in-Some-parent_of.ensures in
    record {
      within = climb_inside c.args.image.now c.args.known.now c.requires.known c.loop-at.at c.in-Some-parent_of.above parent;
      same =
          sym (climb_alike c.args.image.now c.args.known.now c.requires.known c.loop-at.at c.in-Some-parent_of.above c.loop-at.invariant.within c.in_default.is parent) ∙
          c.loop-at.invariant.same;
    }

pub returns-in-None : goal.returns-in-None
returns-in-None c =
    sym (sym c.loop-at.invariant.same ∙ climb_top c.args.image.now c.args.known.now c.requires.known c.loop-at.at c.loop-at.invariant.within c.in_default.is (sym c.in-None.ensures))
