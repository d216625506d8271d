-- Members by their numbers.
use Rattle.dv_defs.specs.declared.names.FieldId.{FieldId}
use Rattle.dv_defs.specs.declared.names.MethodId.{MethodId}
use Rattle.dv_defs.specs.Pools.{Method, Field}

abbrev pub field_id : Field → FieldId
field_id f = record { 0 = f.id }

abbrev pub method_id : Method → MethodId
method_id m = record { 0 = m.id }
