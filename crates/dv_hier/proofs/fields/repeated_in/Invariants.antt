use Rattle.std.proofs.Common.{◌≡◌, true, take, None, All, IsTrue}
use Rattle.std.specs.List.{list_any}
use Rattle.std.specs.BTreeSet.{contains}
use Rattle.dv_defs.specs.First.{first_below}
use Rattle.dv_defs.specs.Field.{may_stand}
use Rattle.dv_defs.specs.LinkFaults.{field_twice}
use Rattle.dv_hier.specs.declared.fields.FieldKey.{FieldKey}
use Rattle.dv_hier.proofs.fields.repeated_in.Given as goal
use Rattle.dv_hier.proofs.FieldLemmas.{key_cmp, is_like}

abbrev pub invariant-loop-i : goal.invariant-loop-i
invariant-loop-i l = record {
  faultless : first_below (field_twice l.fields) l.i ≡ None;
  told : l.several ≡ true → (k : FieldKey) → contains key_cmp l.seen k ≡ list_any (is_like k) (take l.i l.fields);
  values : All (λ f. IsTrue (may_stand f.init f.ty f.flags)) (take l.i l.fields);
}
