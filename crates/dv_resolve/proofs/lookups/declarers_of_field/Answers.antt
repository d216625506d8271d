use Rattle.std.proofs.Common.{List, Option, is_some, ap, ◌∙◌}
use Rattle.std.specs.Global.{Vec}
use Rattle.dv_defs.specs.declared.names.ClassId.{ClassId}
use Rattle.dv_defs.specs.Order.{has_number, numbers}
use Rattle.dv_resolve.specs.declared.members.FieldKey.{FieldKey}
use Rattle.dv_resolve.specs.Declarers.{classes_in}
use Rattle.dv_resolve.specs.Members.{of_field}
use Rattle.dv_resolve.proofs.DeclarerLaws.{some_mapped}
use Rattle.dv_resolve.proofs.lookups.declarers_of_field.Goals as goal

pub returns-in-Some : goal.returns-in-Some
returns-in-Some c = λ image knows d gives.
    let k : FieldKey = record { class = record { 0 = d }; name = c.args.name; ty = c.args.ty } in
    ap (λ (cs : List ClassId). has_number d (numbers cs)) c.as_slice.ensures.value
    ∙ (ap (λ (o : Option (Vec ClassId)). has_number d (numbers (classes_in o))) c.in-Some.ensures.value
    ∙ knows.field_declarers k (ap is_some (knows.fields k) ∙ (some_mapped of_field _ ∙ gives)))

pub returns-in-None : goal.returns-in-None
returns-in-None c = λ image knows d gives.
    let k : FieldKey = record { class = record { 0 = d }; name = c.args.name; ty = c.args.ty } in
    ap (λ (o : Option (Vec ClassId)). has_number d (numbers (classes_in o))) c.in-None.ensures.value
    ∙ knows.field_declarers k (ap is_some (knows.fields k) ∙ (some_mapped of_field _ ∙ gives))
