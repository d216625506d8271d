-- Members by their numbers.
use Rattle.std.proofs.Common.{◌≡◌, Option, Some, None, refl, ap}
use Rattle.std.specs.Prelude.{option_map, unwrap_or}
use Rattle.dv_defs.specs.declared.names.FieldId.{FieldId}
use Rattle.dv_defs.specs.declared.names.MethodId.{MethodId}
use Rattle.dv_defs.specs.Pools.{Method, Field}
use Rattle.dv_resolve.specs.declared.members.Member.{Member}
use Rattle.dv_resolve.specs.Ids.{field_id, method_id}
use Rattle.dv_resolve.specs.Members.{of_field, of_method}

-- the number of the member that is found is that of the field
pub field_given : (m : Member) (o : Option Field) → Some m ≡ option_map of_field o → Some (record { 0 = m.id }) ≡ option_map field_id o
field_given m None h = absurd (cc)
field_given m (Some f) h = ap (λ (p : Option Member). Some (let id : FieldId = record { 0 = (unwrap_or p m).id } in id)) h

pub field_none : (o : Option Field) → None ≡ option_map of_field o → None ≡ option_map field_id o
field_none None h = refl
field_none (Some f) h = absurd (cc)

pub method_given : (m : Member) (o : Option Method) → Some m ≡ option_map of_method o → Some (record { 0 = m.id }) ≡ option_map method_id o
method_given m None h = absurd (cc)
method_given m (Some f) h = ap (λ (p : Option Member). Some (let id : MethodId = record { 0 = (unwrap_or p m).id } in id)) h

pub method_none : (o : Option Method) → None ≡ option_map of_method o → None ≡ option_map method_id o
method_none None h = refl
method_none (Some f) h = absurd (cc)
