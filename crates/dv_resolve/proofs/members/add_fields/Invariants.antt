use Rattle.std.proofs.Common.{◌≡◌, ◌+◌, drop}
use Rattle.std.specs.Option.{option_or}
use Rattle.std.specs.BTreeMap.{get}
use Rattle.dv_resolve.specs.declared.members.FieldKey.{FieldKey}
use Rattle.dv_resolve.specs.Firsts.{first_field_own}
use Rattle.dv_resolve.specs.Members.{field_key_cmp}
use Rattle.dv_resolve.proofs.members.add_fields.Given as goal

abbrev pub invariant-loop-place : goal.invariant-loop-place
invariant-loop-place l =
    (k : FieldKey) → option_or (get field_key_cmp l.found k) (first_field_own k l.class.0 (l.first + l.place) (drop l.place l.fields))
    ≡ option_or (get field_key_cmp l.initial.found k) (first_field_own k l.class.0 l.first l.fields)
