use Rattle.std.proofs.Common.{◌∙◌}
use Rattle.std.proofs.lemmas.Iterator.Adapters.{YieldsList-from_vec}
use Rattle.std.proofs.lemmas.Iterator.Consumers.{YieldsList-end}
use Rattle.dv_defs.specs.Linked.{method_with_pools}
use Rattle.dv_hier.proofs.NumberingLaws.{each_more, each_made}
use Rattle.dv_resolve.proofs.resolving.resolve_pools.Goals as goal

pub loop-method-preserved : goal.loop-method-preserved
loop-method-preserved c =
    λ image known.
    each_more (method_with_pools image) c.loop-method.yielded c.in-Some.method c.in_ok-resolve_method.field-0 c.loop-method.done.items c.push.new.self.items
    (c.loop-method.invariant image known) (c.in_ok-resolve_method.ensures image known) c.in_ok-push.ensures.items

pub returns : goal.returns
returns c =
    let methods = c.args.methods.items in
    let given = c.into_iter-method-iterator.ensures.into_iter_gives in
    let source = YieldsList-from_vec {s = c.into_iter-method-iterator.result} methods given.0 (given.1 ∙ c.args.methods.ok.0) in
    let all = YieldsList-end source c.loop-method.yielded c.loop-method.method-iterator c.loop-method.yielded_by c.next.result c.next.new.self c.in-None.is c.next.ensures.steps in
    λ image known. each_made (method_with_pools image) c.loop-method.yielded methods c.loop-method.done.items (c.loop-method.invariant image known) all.0
