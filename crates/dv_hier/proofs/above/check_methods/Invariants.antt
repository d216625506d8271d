use Rattle.std.proofs.Common.{◌≡◌, ℕ, List, None, take}
use Rattle.dv_defs.specs.declared.class.ClassDef.{ClassDef}
use Rattle.dv_defs.specs.First.{first_in}
use Rattle.dv_defs.specs.LinkFaults.{no_proto}
use Rattle.dv_defs.specs.Numbering.{declared}
use Rattle.law_linking.specs.Stripped.{def_names}
use Rattle.dv_hier.proofs.above.check_methods.Given as goal

abbrev pub invariant-loop-method : goal.invariant-loop-method
invariant-loop-method l =
    (cs : List ClassDef) (boot : ℕ) → l.names ≡ def_names cs → first_in (λ m. no_proto (declared cs boot) m.proto) (take l.method-index l.methods) ≡ None
