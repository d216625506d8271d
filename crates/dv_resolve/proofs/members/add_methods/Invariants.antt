use Rattle.std.proofs.Common.{◌≡◌, ◌+◌, drop}
use Rattle.std.specs.Option.{option_or}
use Rattle.std.specs.BTreeMap.{get}
use Rattle.dv_resolve.specs.declared.members.MethodKey.{MethodKey}
use Rattle.dv_resolve.specs.Firsts.{first_method_own}
use Rattle.dv_resolve.specs.Members.{method_key_cmp}
use Rattle.dv_resolve.proofs.members.add_methods.Given as goal

abbrev pub invariant-loop-place : goal.invariant-loop-place
invariant-loop-place l =
    (k : MethodKey) → option_or (get method_key_cmp l.found k) (first_method_own k l.class.0 (l.first + l.place) (drop l.place l.methods))
    ≡ option_or (get method_key_cmp l.initial.found k) (first_method_own k l.class.0 l.first l.methods)
