use Rattle.dv_resolve.specs.declared.members.FieldKey.{FieldKey}
use Rattle.dv_resolve.specs.Declarers.{field_key_cmp, field_name, field_name_cmp}
use Rattle.dv_resolve.proofs.DeclarerLaws.{AreTold}
use Rattle.dv_resolve.proofs.declarers.field_declarers.Given as goal

abbrev pub invariant-loop-key : goal.invariant-loop-key
invariant-loop-key l =
    AreTold field_key_cmp field_name_cmp field_name (λ (k : FieldKey). k.class) l.fields.entries l.declarers l.key-iterator
