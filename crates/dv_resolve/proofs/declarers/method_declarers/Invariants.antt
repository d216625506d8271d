use Rattle.dv_resolve.specs.declared.members.MethodKey.{MethodKey}
use Rattle.dv_resolve.specs.Declarers.{method_key_cmp, method_name, method_name_cmp}
use Rattle.dv_resolve.proofs.DeclarerLaws.{AreTold}
use Rattle.dv_resolve.proofs.declarers.method_declarers.Given as goal

abbrev pub invariant-loop-key : goal.invariant-loop-key
invariant-loop-key l =
    AreTold method_key_cmp method_name_cmp method_name (λ (k : MethodKey). k.class) l.methods.entries l.declarers l.key-iterator
