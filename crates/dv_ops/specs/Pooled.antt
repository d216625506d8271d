-- Families whose instructions have the same kind of index.
use Rattle.std.specs.Prelude.{Bool, true, false}
use Rattle.dv_defs.specs.Families.{Family}

-- with a type that the operation has as it stands
abbrev pub has_type : Family → Bool
has_type Family.ConstClass = true
has_type Family.CheckCast = true
has_type Family.InstanceOf = true
has_type Family.NewArray = true
has_type Family.FilledNewArray = true
has_type family = false

-- with a field
abbrev pub has_field : Family → Bool
has_field (Family.FieldGet suffix) = true
has_field (Family.FieldPut suffix) = true
has_field (Family.StaticGet suffix) = true
has_field (Family.StaticPut suffix) = true
has_field family = false
