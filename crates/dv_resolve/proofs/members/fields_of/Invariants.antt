use Rattle.std.proofs.Common.{◌≡◌, ◌+◌, drop, length, sum_by}
use Rattle.std.specs.Option.{option_or}
use Rattle.std.specs.BTreeMap.{get}
use Rattle.dv_resolve.specs.declared.members.FieldKey.{FieldKey}
use Rattle.dv_resolve.specs.Firsts.{first_fields_from}
use Rattle.dv_resolve.specs.Members.{field_key_cmp}
use Rattle.dv_resolve.proofs.members.fields_of.Given as goal

abbrev pub invariant-loop-class : goal.invariant-loop-class
invariant-loop-class l = record {
  found : (k : FieldKey) → option_or (get field_key_cmp l.found k) (first_fields_from k l.class l.first (drop l.class l.infos)) ≡ first_fields_from k 0 0 l.infos;
  counted : l.first + sum_by (λ c. length c.def.fields) (drop l.class l.infos) ≡ sum_by (λ c. length c.def.fields) l.infos;
}
