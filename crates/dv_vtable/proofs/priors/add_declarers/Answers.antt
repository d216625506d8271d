use Rattle.std.proofs.Common.{Vec, Global, ◌+◌, ap, ◌++◌, ◌∙◌, drop, filter}
use Rattle.dv_defs.specs.Order.{numbers}
use Rattle.dv_defs.specs.declared.names.ClassId.{ClassId}
use Rattle.dv_hier.proofs.RoundLaws.{nobody}
use Rattle.dv_hier.specs.Upwards.{is_marked}
use Rattle.dv_vtable.proofs.PriorLaws.{declarer_more, other_more}
use Rattle.dv_vtable.proofs.priors.add_declarers.Goals.{then-declares-id+in_ok-push, else-declares-id}
use Rattle.dv_vtable.proofs.priors.add_declarers.Goals as goal

pub loop-id-preserved : goal.loop-id-preserved
loop-id-preserved c =
    let marks = c.args.declares.now in
    let is = c.args.interfaces.now in
    let k = c.loop-id.id-index in
    elim c.if-declares-id.branch [
      | then-declares-id+in_ok-push w ↦
          ap (λ (v : Vec ClassId Global). numbers v.items ++ filter (is_marked marks) (numbers (drop (k + 1) is))) w.priors-is ∙
          declarer_more marks c.loop-id.priors.items w.push.new.self.items is k nobody _ c.loop-id-test.true w.if-declares-id.true w.in_ok-push.ensures.items c.loop-id.invariant
      | else-declares-id w ↦
          ap (λ (v : Vec ClassId Global). numbers v.items ++ filter (is_marked marks) (numbers (drop (k + 1) is))) w.priors-is ∙
          other_more marks c.loop-id.priors.items is k nobody _ c.loop-id-test.true w.if-declares-id.false c.loop-id.invariant
    ]
