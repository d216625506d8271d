use Rattle.std.proofs.Common.{◌≡◌, ℕ, List, None, take}
use Rattle.dv_defs.specs.declared.class.ClassDef.{ClassDef}
use Rattle.dv_defs.specs.First.{first_in}
use Rattle.dv_defs.specs.LinkFaults.{no_class}
use Rattle.dv_defs.specs.Numbering.{declared}
use Rattle.law_linking.specs.Stripped.{def_names}
use Rattle.dv_hier.proofs.above.check_interfaces.Given as goal

abbrev pub invariant-loop-name : goal.invariant-loop-name
invariant-loop-name l =
    (cs : List ClassDef) (boot : ℕ) → l.names ≡ def_names cs → first_in (no_class (declared cs boot)) (take l.name-index l.interfaces) ≡ None
