use Rattle.std.proofs.Common.{refl, inl, inr, arith}
use Rattle.std.specs.Prelude.{codes}
use Rattle.dv_names.proofs.NamesAt.{special_from, angle_c, angle_i}
use Rattle.dv_names.proofs.names.special_end.Goals as goal
use Rattle.dv_names.proofs.names.special_end.Goals.{else-start-text-via-then-start-text+else-text-start-eq99, else-start-text-via-else-start-text}

pub returns-then-text-start-eq99 : goal.returns-then-text-start-eq99
returns-then-text-start-eq99 c =
    special_from c.args.text.now (codes "clinit>") c.args.start (omega arith) refl (angle_c c.args.text.now c.args.start c.if-start-text.true c.if-text-start-eq99.true) c.word_end.result c.word_end.ensures

pub returns-else-start-text : goal.returns-else-start-text
returns-else-start-text c =
    special_from c.args.text.now (codes "init>") c.args.start (omega arith) refl (angle_i c.args.text.now c.args.start
    (elim c.else-start-text.branch [
      | else-start-text-via-then-start-text+else-text-start-eq99 w ↦ inl (w.if-start-text.true, w.if-text-start-eq99.false)
      | else-start-text-via-else-start-text w ↦ inr w.if-start-text.false
    ])) c.word_end-else-start-text.result c.word_end-else-start-text.ensures
