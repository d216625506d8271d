use Rattle.std.proofs.Common.{sym, ap, arith, length}
use Rattle.dv_clinit.proofs.Declared.{class_inside}
use Rattle.dv_clinit.proofs.Marking.{all_marked, mark, pass_over}
use Rattle.dv_clinit.proofs.births.with_initialisers.Goals as goal
use Rattle.dv_clinit.proofs.births.with_initialisers.Goals.{in-Some, in_default}

pub index_mut-requires : goal.index_mut-requires
index_mut-requires c =
    omega (arith, class_inside c.args.image.now c.loop-id.id _ (sym c.in-Some.ensures), c.loop-id.invariant.count)

pub loop-id-preserved : goal.loop-id-preserved
loop-id-preserved c =
    elim c.match-initialiser_at.branch [
      | in-Some w ↦ rw w.known-is (mark c.args.image.now c.loop-id.id c.loop-id.known.items _ c.loop-id.invariant (sym w.in-Some.ensures))
      | in_default w ↦ rw w.known-is (pass_over c.args.image.now c.loop-id.id c.loop-id.known.items c.loop-id.invariant (sym w.in_default.ensures))
    ]

pub returns : goal.returns
returns c =
    all_marked c.args.image.now c.loop-id.id c.loop-id.known.items c.loop-id.invariant
    (omega (arith, c.loop-id-test.false, ap length c.methods_of-methods.ensures.methods))
