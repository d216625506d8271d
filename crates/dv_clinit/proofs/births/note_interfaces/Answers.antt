use Rattle.std.proofs.Common.{None, ap, ◌∙◌, arith}
use Rattle.std.specs.Prelude.{not}
use Rattle.dv_clinit.proofs.BirthLaws.{unknown_open}
use Rattle.dv_clinit.proofs.Noting.{none_by_test, noted, passed}
use Rattle.dv_clinit.proofs.births.note_interfaces.Goals as goal
use Rattle.dv_clinit.proofs.births.note_interfaces.Goals.{then-is_none, else-is_none}

pub loop-class-preserved : goal.loop-class-preserved
loop-class-preserved c =
    elim c.if-is_none.branch [
      | then-is_none w ↦
          let unknown = none_by_test _ (c.is_none.ensures ∙ ap not w.if-is_none.true) in
          rw w.known-is
          (noted c.args.image.now c.loop-class.class c.loop-class.known w.state_by_interfaces.result (omega arith)
          (unknown_open c.args.image.now _ c.loop-class.known c.loop-class.invariant c.loop-class.class (omega arith) unknown).declares
          w.state_by_interfaces.ensures c.loop-class.invariant)
      | else-is_none w ↦
          rw w.known-is
          (passed c.args.image.now c.loop-class.class c.loop-class.known None (c.is_none.ensures ∙ ap not w.if-is_none.false) c.loop-class.invariant)
    ]
