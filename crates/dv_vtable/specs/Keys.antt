-- How keys are compared.
use Rattle.std.specs.Prelude.{Bool}
use Rattle.std.specs.declared.cmp.Ordering.{Ordering}
use Rattle.dv_vtable.specs.declared.keys.MethodKey.{MethodKey}
use Rattle.dv_vtable.specs.contracts.keys.MethodKeyPartialEq.TheImpl as of_key
use Rattle.dv_vtable.specs.contracts.keys.MethodKeyOrd.TheImpl as of_order

abbrev pub key_eq : MethodKey → MethodKey → Bool
key_eq = (of_key.ghosts).eq

abbrev pub key_cmp : MethodKey → MethodKey → Ordering
key_cmp = (of_order.ghosts).cmp
