-- What a spelling tells of its instruction.
use Rattle.std.proofs.Common.{◌≡◌, ℕ, ◌<◌, Bool, true, List, Some, arith}
use Rattle.dv_defs.specs.declared.code.Insn.{Insn}
use Rattle.dv_defs.specs.Spelling.{spelled}
use Rattle.dv_defs.proofs.InsnEq.{form_tests}

-- it has its form, its opcode and operands fit, and these are its units
pub record IsSpelled (i form : Insn) (t : Bool) (us vs : List ℕ) : Type 0 where
  pub form_of : i ≡ form
  pub opcode : i.op < 256
  pub fitting : t ≡ true
  pub units : vs ≡ us

pub spelled_is : (i form : Insn) (t : Bool) (us vs : List ℕ) → spelled i form t us ≡ Some vs → IsSpelled i form t us vs
spelled_is i form t us vs p = record {
  form_of = grind (arith, form_tests);
  opcode = grind (arith, form_tests);
  fitting = grind (arith, form_tests);
  units = grind (arith, form_tests);
}
