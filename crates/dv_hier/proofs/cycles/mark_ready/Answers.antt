use Rattle.std.proofs.Common.{◌≡◌, List, Bool, ◌+◌, sym, subst, ◌∙◌, arith}
use Rattle.dv_hier.specs.Upwards.{unmarked}
use Rattle.dv_hier.proofs.UpwardsLaws.{IsRound, turn_marks, turn_marked, turn_unready}
use Rattle.dv_hier.proofs.cycles.mark_ready.Goals as goal
use Rattle.dv_hier.proofs.cycles.mark_ready.Goals.{then-not-done-i+then-is_ready, else-not-done-i, else-not-done-i-via-then-not-done-i+else-is_ready, else-not-done-i-via-else-not-done-i}

pub loop-i-preserved : goal.loop-i-preserved
loop-i-preserved c =
    let cs = c.args.infos.now in
    let start = unmarked c.args.done.now in
    let i = c.loop-i.i in
    let as_now = λ (marks : List Bool) (changed : Bool) (done_is : c.if-not-done-i.done ≡ marks) (changed_is : c.if-not-done-i.changed ≡ changed) (h : IsRound cs start marks changed (i + 1)). subst (λ ms. IsRound cs start ms c.if-not-done-i.changed (i + 1)) (sym done_is) (subst (λ b. IsRound cs start marks b (i + 1)) (sym changed_is) h) in
    elim c.if-not-done-i.branch [
      | then-not-done-i+then-is_ready w ↦
          as_now _ _ w.done-is w.changed-is
          (turn_marks cs start c.loop-i.done c.loop-i.changed i w.index-infos-i.result (omega arith) (omega arith) w.index-infos-i.is w.if-not-done-i.true (sym w.is_ready.ensures ∙ w.if-is_ready.true) c.loop-i.invariant)
      | else-not-done-i w ↦
          as_now _ _ w.done-is w.changed-is
          (elim w.else-not-done-i.branch [
            | else-not-done-i-via-then-not-done-i+else-is_ready v ↦ turn_unready cs start c.loop-i.done c.loop-i.changed i v.index-infos-i.result (omega arith) v.index-infos-i.is (sym v.is_ready.ensures ∙ v.if-is_ready.false) c.loop-i.invariant
            | else-not-done-i-via-else-not-done-i v ↦ turn_marked cs start c.loop-i.done c.loop-i.changed i v.if-not-done-i.false c.loop-i.invariant
          ])
    ]
