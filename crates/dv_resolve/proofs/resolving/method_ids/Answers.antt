use Rattle.std.proofs.Common.{sym, ap, ◌∙◌}
use Rattle.dv_defs.specs.LookUp.{method_named}
use Rattle.dv_hier.proofs.NumberingLaws.{given_more, none_more}
use Rattle.dv_resolve.specs.Ids.{method_id}
use Rattle.dv_resolve.proofs.IdLaws.{method_given, method_none}
use Rattle.dv_resolve.proofs.resolving.method_ids.Goals as goal
use Rattle.dv_resolve.proofs.resolving.method_ids.Goals.{in-Some+in_ok-push, in_default}

pub loop-method-preserved : goal.loop-method-preserved
loop-method-preserved c =
    let refs = c.args.methods.now in
    let i = c.loop-method.method-index in
    let one = c.method-item.result in
    let ids = c.loop-method.ids.items in
    λ image known.
    elim c.match-method_named.branch [
      | in-Some+in_ok-push w ↦
          given_more (method_named image) method_id refs i one (record { 0 = w.in-Some.member.id }) ids c.match-method_named.ids.items c.loop-method-test.true c.method-item.is
          (c.loop-method.invariant image known) (method_given w.in-Some.member (method_named image one) (w.in-Some.ensures image known)) (ap (λ v. v.items) w.ids-is ∙ w.in_ok-push.ensures.items)
      | in_default w ↦
          none_more (method_named image) method_id refs i one ids c.match-method_named.ids.items c.loop-method-test.true c.method-item.is
          (c.loop-method.invariant image known) (method_none (method_named image one) (sym w.in_default.is ∙ c.method_named.ensures image known)) (ap (λ v. v.items) w.ids-is)
    ]
