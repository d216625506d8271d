use Rattle.std.proofs.Common.{◌≡◌, ◌+◌, drop, length, sum_by}
use Rattle.std.specs.Option.{option_or}
use Rattle.std.specs.BTreeMap.{get}
use Rattle.dv_resolve.specs.declared.members.MethodKey.{MethodKey}
use Rattle.dv_resolve.specs.Firsts.{first_methods_from}
use Rattle.dv_resolve.specs.Members.{method_key_cmp}
use Rattle.dv_resolve.proofs.members.methods_of.Given as goal

abbrev pub invariant-loop-class : goal.invariant-loop-class
invariant-loop-class l = record {
  found : (k : MethodKey) → option_or (get method_key_cmp l.found k) (first_methods_from k l.class l.first (drop l.class l.infos)) ≡ first_methods_from k 0 0 l.infos;
  counted : l.first + sum_by (λ c. length c.def.methods) (drop l.class l.infos) ≡ sum_by (λ c. length c.def.methods) l.infos;
}
