use Rattle.std.proofs.Common.{ap, ◌∙◌, inr}
use Rattle.std.specs.Map.Iter.{deref_pair}
use Rattle.std.proofs.lemmas.Map.Iter.{rest_more, rest_all}
use Rattle.dv_resolve.specs.declared.members.FieldKey.{FieldKey}
use Rattle.dv_resolve.specs.Declarers.{field_key_cmp, field_name, field_name_cmp}
use Rattle.dv_resolve.proofs.DeclarerLaws.{has_key, all_told, told_more, field_names, fields_alike}
use Rattle.dv_resolve.proofs.declarers.field_declarers.Goals as goal

pub loop-key-init : goal.loop-key-init
loop-key-init c = λ k there. inr (ap (λ es. has_key field_key_cmp es k) c.into_iter-key-iterator.ensures.into_iter_gives.0 ∙ there)

pub loop-key-preserved : goal.loop-key-preserved
loop-key-preserved c =
    told_more field_key_cmp field_name_cmp field_names field_name (λ (k : FieldKey). k.class) fields_alike c.args.fields.now.entries c.loop-key.key-iterator c.next.new.self
    c.in-Some.key.now c.in-Some.field-0-1.now c.loop-key.declarers c.add_declarer.new.declarers
    (rest_more deref_pair c.loop-key.key-iterator c.next.new.self c.next.result (c.in-Some.key, c.in-Some.field-0-1) c.in-Some.is c.next.ensures.steps)
    c.in_ok-add_declarer.ensures c.loop-key.invariant

pub returns : goal.returns
returns c =
    all_told field_key_cmp field_name_cmp field_names field_name (λ (k : FieldKey). k.class) fields_alike c.args.fields.now.entries c.loop-key.key-iterator c.loop-key.declarers
    (rest_all deref_pair c.loop-key.key-iterator c.next.new.self c.next.result c.in-None.is c.next.ensures.steps) c.loop-key.invariant
