use Rattle.std.proofs.Common.{◌≡◌, true, take, None}
use Rattle.std.specs.List.{list_any}
use Rattle.std.specs.BTreeSet.{contains}
use Rattle.dv_defs.specs.First.{first_below}
use Rattle.dv_defs.specs.LinkFaults.{method_twice}
use Rattle.dv_vtable.specs.declared.keys.MethodKey.{MethodKey}
use Rattle.dv_vtable.proofs.methods.repeated_in.Given as goal
use Rattle.dv_vtable.specs.Keys.{key_cmp}
use Rattle.dv_vtable.proofs.KeyLemmas.{is_like}

abbrev pub invariant-loop-i : goal.invariant-loop-i
invariant-loop-i l = record {
  faultless : first_below (method_twice l.methods) l.i ≡ None;
  told : l.several ≡ true → (k : MethodKey) → contains key_cmp l.seen k ≡ list_any (is_like k) (take l.i l.methods);
}
