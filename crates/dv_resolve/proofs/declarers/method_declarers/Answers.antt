use Rattle.std.proofs.Common.{ap, ◌∙◌, inr}
use Rattle.std.specs.Map.Iter.{deref_pair}
use Rattle.std.proofs.lemmas.Map.Iter.{rest_more, rest_all}
use Rattle.dv_resolve.specs.declared.members.MethodKey.{MethodKey}
use Rattle.dv_resolve.specs.Declarers.{method_key_cmp, method_name, method_name_cmp}
use Rattle.dv_resolve.proofs.DeclarerLaws.{has_key, all_told, told_more, method_names, methods_alike}
use Rattle.dv_resolve.proofs.declarers.method_declarers.Goals as goal

pub loop-key-init : goal.loop-key-init
loop-key-init c = λ k there. inr (ap (λ es. has_key method_key_cmp es k) c.into_iter-key-iterator.ensures.into_iter_gives.0 ∙ there)

pub loop-key-preserved : goal.loop-key-preserved
loop-key-preserved c =
    told_more method_key_cmp method_name_cmp method_names method_name (λ (k : MethodKey). k.class) methods_alike c.args.methods.now.entries c.loop-key.key-iterator c.next.new.self
    c.in-Some.key.now c.in-Some.field-0-1.now c.loop-key.declarers c.add_declarer.new.declarers
    (rest_more deref_pair c.loop-key.key-iterator c.next.new.self c.next.result (c.in-Some.key, c.in-Some.field-0-1) c.in-Some.is c.next.ensures.steps)
    c.in_ok-add_declarer.ensures c.loop-key.invariant

pub returns : goal.returns
returns c =
    all_told method_key_cmp method_name_cmp method_names method_name (λ (k : MethodKey). k.class) methods_alike c.args.methods.now.entries c.loop-key.key-iterator c.loop-key.declarers
    (rest_all deref_pair c.loop-key.key-iterator c.next.new.self c.next.result c.in-None.is c.next.ensures.steps) c.loop-key.invariant
