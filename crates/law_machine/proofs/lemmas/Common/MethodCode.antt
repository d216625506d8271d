-- The registers of a method with a body.
use Rattle.std.proofs.Common.{◌≡◌, ℕ, Some, None, ap}
use Rattle.dv_defs.specs.declared.code.Body.{Body}
use Rattle.dv_defs.specs.Pools.{Method}
use Rattle.dv_machine.specs.Calls.{registers_of}

pub registers_are : (m : Method) (b : Body) → m.def.body ≡ Some b → registers_of m ≡ b.registers
registers_are m b e = ap (λ o. elim o as (λ w. ℕ) [ None ↦ 0 | Some c ↦ c.registers ]) e
